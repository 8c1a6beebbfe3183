-- What the code's answers say, in the forms that the definitions speak of.
use Rattle.std.specs.Prelude.{ℕ, true, false, Option, Some, None}
use Rattle.lab.specs.Clocks.{Clock}
use Rattle.lab.specs.Classes.{Class}

-- a word that says no clock says none
abbrev pub given_clock : Option ℕ → Clock
given_clock (Some value) = record { good = true; value = value }
given_clock None = record { good = false; value = 0 }

-- and one that is no class has no field
abbrev pub given_class : Option ℕ → Class
given_class (Some len) = record { good = true; len = len }
given_class None = record { good = false; len = 0 }
