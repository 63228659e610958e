-- The five numbers that a call answers (R63, R103).
use Rattle.std.specs.Prelude.{Ok, Err, ℕ}
use Rattle.table.specs.declared.Refusal.{Refusal}
use Rattle.table.specs.Words.{Said}
use Rattle.calls.specs.declared.Returned.{Returned}

-- R63: granted, with a place and a value
abbrev pub granted_as : (place value : ℕ) → Returned
granted_as k v = record { number = 0; place = k; value = v; tick = 0; excess = 0 }

-- R63, R103: refused, with what the refusal says
abbrev pub refused_as : Refusal → Returned
refused_as x = record { number = x.number; place = x.place; value = 0; tick = x.tick; excess = x.excess }

-- R63: what was asked for with a place, or the refusal
abbrev pub result_at : (place : ℕ) → Said ℕ → Returned
result_at k (Ok v) = granted_as k v
result_at k (Err x) = refused_as x

-- R63: what was asked for, or the refusal
abbrev pub result_of : Said ℕ → Returned
result_of s = result_at 0 s
