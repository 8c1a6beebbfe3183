use Rattle.replay.proofs.Handing.{quiet, called}
use Rattle.replay.proofs.ByKind.{call_event, call_interrupt, call_write, call_seed, call_read, call_blocking}
use Rattle.replay.proofs.running.run.Goals as goal

pub returns-in-Event : goal.returns-in-Event
returns-in-Event c = called _ _ _ _ _ _ _ (call_event _ _ _ _ _ _ _ _ _ c.in-Event.is c.device_named.ensures) (quiet _ _ _ _ _ (search c.event_on.ensures))

pub returns-in-Interrupt : goal.returns-in-Interrupt
returns-in-Interrupt c = called _ _ _ _ _ _ _ (call_interrupt _ _ _ _ _ _ _ _ c.in-Interrupt.is) (quiet _ _ _ _ _ (search c.interrupt_on.ensures))

pub returns-in-Write : goal.returns-in-Write
returns-in-Write c = called _ _ _ _ _ _ _ (call_write _ _ _ _ _ _ _ c.in-Write.is c.payload.ensures) (quiet _ _ _ _ _ (search c.write_on.ensures))

pub returns-in-Seed : goal.returns-in-Seed
returns-in-Seed c = called _ _ _ _ _ _ _ (call_seed _ _ _ _ _ _ _ _ c.in-Seed.is c.payload-in-Seed.ensures) (quiet _ _ _ _ _ (search c.seed_on.ensures))

pub returns-in-Read : goal.returns-in-Read
returns-in-Read c = called _ _ _ _ _ _ _ (call_read _ _ _ _ _ _ c.in-Read.is) (search c.read_into.ensures)

pub returns-in-BlockingRead : goal.returns-in-BlockingRead
returns-in-BlockingRead c = called _ _ _ _ _ _ _ (call_blocking _ _ _ _ _ _ c.in-BlockingRead.is) (search c.blocking_read_into.ensures)
