-- What is known of a word before its recurrence is looked for: its syndromes, and what is left of them.
use Rattle.std.proofs.Common.{◌≡◌, ℕ, ◌-◌, ◌*◌, ◌/◌, ◌<◌, ◌≤◌, Bool, List, length, arith}
use Rattle.dtx_galois.specs.Field.{pow, value, AreBytes}
use Rattle.dtx_laws.specs.Codeword.{IsCode}
use Rattle.dtx_laws.specs.Locator.{others, without, is_marked}
use Rattle.dtx_erase.specs.Mending.{lost}
use Rattle.dtx_erase.proofs.Restored.{AreMarked}

pub are_marked : (k f : ℕ) (marks : List Bool) (word : List ℕ) (s r : ℕ → ℕ) → IsCode (length word) k
    → length marks ≡ length word → AreBytes word → lost marks ≤ length word - k → f ≡ lost marks
    → ((i : ℕ) → i < length word - k → s i ≡ value word (pow 2 i)) → ((i : ℕ) → i < 2 * ((length word - k - f) / 2)
    → r i ≡ without (others (length marks) (is_marked marks) (length marks) (length marks)) s i)
    → AreMarked (length word) k ((length word - k - f) / 2) marks word s r
are_marked k f marks word s r c l b few e h g = grind arith
