use Rattle.pool.specs.Extracting.{pool_hash}
use Rattle.mixer.proofs.extracting.hash_of.Goals as goal

pub returns : goal.returns
unfolding pool_hash
returns g c = rw c.args.pool.now.as_many at c.hash_pool.ensures
