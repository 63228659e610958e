-- The boundary's version, by computation.
use mathlib.Core.Path.{◌≡◌, refl}
use Rattle.house.specs.Version.{boundary_version}

-- R93: the sixth version
pub version_edges_lem : boundary_version ≡ 6
version_edges_lem = refl
