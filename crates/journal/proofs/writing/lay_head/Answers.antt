use mathlib.Core.Path.{◌≡◌, refl}
use mathlib.Core.List.{[], ◌∷◌}
use Prim.Native.Nat.{suc, ◌+◌}
use Rattle.journal.specs.Layout.{device_bytes, sum}
use Rattle.journal.proofs.Laying.{next_field, event_head, interrupt_head, write_head, seed_head, read_head, blocking_head, head_laid}
use native.Mathlib.Omega.{arith}
use Rattle.journal.proofs.writing.lay_head.Goals as goal

pub lay_clock-device_at-requires : goal.lay_clock-device_at-requires
lay_clock-device_at-requires c = omega (arith, (event_head c.args.version c.args.it _ _ _ _ c.in-Event.is).size)

pub lay_number-stamp_at-requires : goal.lay_number-stamp_at-requires
lay_number-stamp_at-requires c = (omega (arith, c.device_bytes.ensures.1), omega (arith, (event_head c.args.version c.args.it _ _ _ _ c.in-Event.is).size, c.lay_clock-device_at.auto.room, c.lay_clock-device_at.ensures.1, c.device_bytes.ensures.0))

pub lay_number-value_at-requires : goal.lay_number-value_at-requires
lay_number-value_at-requires c = (omega arith, omega (arith, (event_head c.args.version c.args.it _ _ _ _ c.in-Event.is).size, c.lay_clock-device_at.auto.room, c.lay_clock-device_at.ensures.1, c.lay_number-stamp_at.auto.room, c.lay_number-stamp_at.ensures.1, c.device_bytes.ensures.0))

pub lay_number-requires : goal.lay_number-requires
lay_number-requires c = (omega arith, omega (arith, (event_head c.args.version c.args.it _ _ _ _ c.in-Event.is).size, c.lay_clock-device_at.auto.room, c.lay_clock-device_at.ensures.1, c.lay_number-stamp_at.auto.room, c.lay_number-stamp_at.ensures.1, c.lay_number-value_at.auto.room, c.lay_number-value_at.ensures.1, c.device_bytes.ensures.0))

pub lay_clock-number_at-requires : goal.lay_clock-number_at-requires
lay_clock-number_at-requires c = omega (arith, (interrupt_head c.args.version c.args.it _ _ _ _ c.in-Interrupt.is).size)

pub lay_number-stamp_at-requires-in-Interrupt : goal.lay_number-stamp_at-requires-in-Interrupt
lay_number-stamp_at-requires-in-Interrupt c = (omega arith, omega (arith, (interrupt_head c.args.version c.args.it _ _ _ _ c.in-Interrupt.is).size, c.lay_clock-number_at.auto.room, c.lay_clock-number_at.ensures.1))

pub lay_number-address_at-requires : goal.lay_number-address_at-requires
lay_number-address_at-requires c = (omega arith, omega (arith, (interrupt_head c.args.version c.args.it _ _ _ _ c.in-Interrupt.is).size, c.lay_clock-number_at.auto.room, c.lay_clock-number_at.ensures.1, c.lay_number-stamp_at-in-Interrupt.auto.room, c.lay_number-stamp_at-in-Interrupt.ensures.1))

pub lay_number-requires-in-Interrupt : goal.lay_number-requires-in-Interrupt
lay_number-requires-in-Interrupt c = (omega arith, omega (arith, (interrupt_head c.args.version c.args.it _ _ _ _ c.in-Interrupt.is).size, c.lay_clock-number_at.auto.room, c.lay_clock-number_at.ensures.1, c.lay_number-stamp_at-in-Interrupt.auto.room, c.lay_number-stamp_at-in-Interrupt.ensures.1, c.lay_number-address_at.auto.room, c.lay_number-address_at.ensures.1))

pub lay_length-requires : goal.lay_length-requires
lay_length-requires c = omega (arith, (write_head c.args.version c.args.it _ _ c.in-Write.is).size)

pub lay_length-credit_at-requires : goal.lay_length-credit_at-requires
lay_length-credit_at-requires c = omega (arith, (seed_head c.args.version c.args.it _ _ _ c.in-Seed.is).size)

pub lay_number-requires-in-Seed : goal.lay_number-requires-in-Seed
lay_number-requires-in-Seed c = (omega arith, omega (arith, (seed_head c.args.version c.args.it _ _ _ c.in-Seed.is).size, c.lay_length-credit_at.auto.room, c.lay_length-credit_at.ensures.1))

pub lay_length-requires-in-Read : goal.lay_length-requires-in-Read
lay_length-requires-in-Read c = omega (arith, (read_head c.args.version c.args.it _ _ c.in-Read.is).size)

pub lay_length-requires-in-BlockingRead : goal.lay_length-requires-in-BlockingRead
lay_length-requires-in-BlockingRead c = omega (arith, (blocking_head c.args.version c.args.it _ _ c.in-BlockingRead.is).size)

pub returns-in-Event : goal.returns-in-Event
unfolding sum
returns-in-Event c = let value = c.lay_number.ensures in
    let stamp = c.lay_number-value_at.ensures in
    let device = rw c.device_bytes.ensures.0 at c.lay_number-stamp_at.ensures in
    let clock = c.lay_clock-device_at.ensures in
    let a = c.args in
    let w = device_bytes a.version in
    let third : c.lay_number-stamp_at.result ≡ a.at + suc (sum (4 ∷ w ∷ [])) = omega (arith, clock.1, device.1) in
    let fourth : c.lay_number-value_at.result ≡ a.at + suc (sum (4 ∷ w ∷ 8 ∷ [])) = omega (arith, third, stamp.1) in
    let two = next_field a.room.now _ _ _ _ 1 _ _ _ _ refl clock.0 clock.1 device.0 in
    let three = next_field a.room.now _ _ _ _ 1 _ _ _ _ refl two third stamp.0 in
    head_laid _ _ _ _ _ _ _ _ (event_head _ _ _ _ _ _ c.in-Event.is) (next_field a.room.now _ _ _ _ 1 _ _ _ _ refl three fourth value.0, omega (arith, fourth, value.1))

pub returns-in-Interrupt : goal.returns-in-Interrupt
unfolding sum
returns-in-Interrupt c = let address = c.lay_number-in-Interrupt.ensures in
    let stamp = c.lay_number-address_at.ensures in
    let number = c.lay_number-stamp_at-in-Interrupt.ensures in
    let clock = c.lay_clock-number_at.ensures in
    let a = c.args in
    let third : c.lay_number-stamp_at-in-Interrupt.result ≡ a.at + suc (sum (4 ∷ 4 ∷ [])) = omega (arith, clock.1, number.1) in
    let fourth : c.lay_number-address_at.result ≡ a.at + suc (sum (4 ∷ 4 ∷ 8 ∷ [])) = omega (arith, third, stamp.1) in
    let two = next_field a.room.now _ _ _ _ 2 _ _ _ _ refl clock.0 clock.1 number.0 in
    let three = next_field a.room.now _ _ _ _ 2 _ _ _ _ refl two third stamp.0 in
    head_laid _ _ _ _ _ _ _ _ (interrupt_head _ _ _ _ _ _ c.in-Interrupt.is) (next_field a.room.now _ _ _ _ 2 _ _ _ _ refl three fourth address.0, omega (arith, fourth, address.1))

pub returns-in-Write : goal.returns-in-Write
returns-in-Write c = head_laid _ _ _ _ _ _ _ _ (write_head _ _ _ _ c.in-Write.is) c.lay_length.ensures

pub returns-in-Seed : goal.returns-in-Seed
unfolding sum
returns-in-Seed c = let credit = c.lay_number-in-Seed.ensures in
    let length = c.lay_length-credit_at.ensures in
    head_laid _ _ _ _ _ _ _ _ (seed_head _ _ _ _ _ c.in-Seed.is) (next_field c.args.room.now _ _ _ _ 4 _ _ _ _ refl length.0 length.1 credit.0, omega (arith, length.1, credit.1))

pub returns-in-Read : goal.returns-in-Read
returns-in-Read c = head_laid _ _ _ _ _ _ _ _ (read_head _ _ _ _ c.in-Read.is) c.lay_length-in-Read.ensures

pub returns-in-BlockingRead : goal.returns-in-BlockingRead
returns-in-BlockingRead c = head_laid _ _ _ _ _ _ _ _ (blocking_head _ _ _ _ c.in-BlockingRead.is) c.lay_length-in-BlockingRead.ensures
