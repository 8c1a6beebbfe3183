use mathlib.Core.Path.{refl, ap, ◌∙◌}
use lib.ListN.{length}
use lib.Seq.{length-sets}
use Rattle.transcript.proofs.Writing.{copied}
use Rattle.transcript.proofs.text.Text.letters.Goals as goal

pub returns : goal.returns
returns c = let p = copied c.args.self.now.room.now c.args.letters.now _ c.args.self.now.at c.requires c.copy_from_slice.ensures.after in
    record { put = record { place = refl; stored = p }; same_length = ap length p ∙ length-sets c.args.self.now.room.now c.args.self.now.at c.args.letters.now; same_reference = refl }
