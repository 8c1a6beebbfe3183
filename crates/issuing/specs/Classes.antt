-- A class, as the code has it.
use Rattle.std.specs.Prelude.{ℕ, List, ◌≡◌, Result, MatchResult}
use Rattle.ledger.specs.declared.refusals.Refusal.{Refusal}
use Rattle.ledger.specs.declared.refusals.Refusal.TheVariants.{NoSuchClass}
use Rattle.desk.specs.Sizes.{drill, live}
use Rattle.desk.specs.Issuing.{class_of}
use Rattle.issuing.specs.declared.classes.Class.{Class}
use Rattle.issuing.specs.declared.classes.Class.TheVariants.{Drill, Live}

-- the class byte
abbrev pub byte_of : Class → ℕ
byte_of Drill = drill
byte_of Live = live

-- what comes of a class field: the class whose byte it names, or the refusal of one that names none
abbrev pub Names : List ℕ → Result Class Refusal → Type 0
Names field r = MatchResult r (λ c. byte_of c ≡ class_of field) (λ why. (class_of field ≡ 0) × (why ≡ NoSuchClass))
