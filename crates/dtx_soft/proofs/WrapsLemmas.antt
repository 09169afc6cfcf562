-- Signed numbers that fit their bits are as they were when they come back from them.
use Rattle.std.proofs.Common.{◌≡◌, ℤ, ◌+ℤ◌, ◌-ℤ◌, ap₂, ◌∙◌, to_z, of_z}
use mir.Syntax.{Width}
use mir.Val.{SFits}
use Rattle.std.proofs.lemmas.Int.{to_z-of_z}

-- a number that is read from so many bits
abbrev pub read : Width → ℤ → ℤ
read w z = to_z w (of_z w z)

-- sums and differences of numbers that were read
pub sum_read : (w : Width) (a b x y : ℤ) → a ≡ x → b ≡ y → SFits w (x +ℤ y) → read w (a +ℤ b) ≡ x +ℤ y
sum_read w a b x y e f fits = ap₂ (λ s t. read w (s +ℤ t)) e f ∙ to_z-of_z w (x +ℤ y) fits

pub difference_read : (w : Width) (a b x y : ℤ) → a ≡ x → b ≡ y → SFits w (x -ℤ y) → read w (a -ℤ b) ≡ x -ℤ y
difference_read w a b x y e f fits = ap₂ (λ s t. read w (s -ℤ t)) e f ∙ to_z-of_z w (x -ℤ y) fits

-- what a call gives for two numbers
pub unwrapped : {A : Type 0} {r : A} (w : Width) (f : ℤ → ℤ → A) (v u : ℤ) → SFits w v → SFits w u
    → r ≡ f (read w v) (read w u) → r ≡ f v u
unwrapped w f v u g h e = e ∙ ap₂ f (to_z-of_z w v g) (to_z-of_z w u h)
