-- Laws of what any receiver makes of symbols: what the first segments give is a prefix of what more give.
use Rattle.std.proofs.Common.{◌≡◌, ℕ, ◌%◌, List, [], ◌∷◌, ◌++◌, length, refl, sym, ap, ◌∙◌, arith}
use Rattle.std.specs.Prelude.{ℤ}
use Rattle.std.proofs.lemmas.Grind.{flat_map-append}
use Rattle.std.proofs.lemmas.List.{append_assoc, append-nil}
use Rattle.dtx_engine.specs.Made.{only, AreFrontsOf}
use Rattle.dtx_receiver.specs.declared.batch.Received.{Received}
use Rattle.dtx_recipes.specs.Giving.{Giving, IsGiving, bytes_of, receiving_by}
use Rattle.dtx_recipes.specs.SymbolFile.{file_segments}
use Rattle.dtx_recipes.proofs.SymbolFileLemmas.{file_segments-append}

pub bytes_of-append : (a b : List Received) → bytes_of (a ++ b) ≡ bytes_of a ++ bytes_of b
bytes_of-append a b = flat_map-append (λ (p : Received). p.packet.0) a b

-- the packets of `segments` are a prefix of those of `segments ++ more`
pub given_on : (giving : Giving) → IsGiving giving → (segments more : List (List ℤ))
    → (brought : List Received) × (giving.so_far (segments ++ more) ≡ giving.so_far segments ++ brought)
given_on giving is segments [] =
    ([], ap giving.so_far (append-nil segments) ∙ sym (append-nil (giving.so_far segments)))
given_on giving is segments (x ∷ more) =
    let first = is.segment segments x in
    let rest = given_on giving is (segments ++ x ∷ []) more in (grind (arith, append_assoc))

-- ---- what is made

pub receives_none : (giving : Giving) → IsGiving giving → (receiving_by giving).made [] ≡ only []
receives_none giving is = ap (λ ps. only (bytes_of ps)) is.none

pub receives_more : (giving : Giving) → IsGiving giving → (a b : List ℕ) → length a % 832 ≡ 0
    → AreFrontsOf ((receiving_by giving).made a) ((receiving_by giving).made (a ++ b))
receives_more giving is a b whole =
    let on = given_on giving is (file_segments a) (file_segments b) in (
      (bytes_of on.0, sym (grind (arith, file_segments-append, bytes_of-append))),
      ([], refl),
    )
