use Rattle.mixer.proofs.extracting.mix_back.Goals as goal

pub returns-clause-pool_after : goal.returns-clause-pool_after
returns-clause-pool_after g c = rw c.hash_bytes-b.ensures at c.mix_by.ensures.pool_after
