use mathlib.Core.Path.{sym}
use Rattle.replay.proofs.OldDevices.{named, unnamed}
use Rattle.replay.proofs.running.device_named.Goals as goal

pub returns-then-device-devices_in : goal.returns-then-device-devices_in
returns-then-device-devices_in c = sym (named _ _ (rw c.devices_in.ensures at c.if-device-devices_in.true))

pub returns : goal.returns
returns c = sym (unnamed _ _ (rw c.devices_in.ensures at c.if-device-devices_in.false))
