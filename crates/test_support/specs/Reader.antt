-- What is left of a text that is read.
use Rattle.std.specs.Prelude.{◌≡◌, ℕ, ◌-◌, List, length, drop}

-- ys is what is left of xs behind its first bytes
abbrev pub Behind : List ℕ → List ℕ → Type 0
Behind xs ys = ys ≡ drop (length xs - length ys) xs
