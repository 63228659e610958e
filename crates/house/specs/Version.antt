-- The boundary's version (R93).
use Rattle.std.specs.Prelude.{ℕ}

-- R93: the version of the boundary
abbrev pub boundary_version : ℕ
boundary_version = 6
