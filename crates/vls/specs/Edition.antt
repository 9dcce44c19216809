-- The version of the border.
use Rattle.std.specs.Prelude.{ℕ}

-- VLS_VERSION: a million times major, a thousand times minor, and patch.
abbrev pub edition : ℕ
edition = 1001000
