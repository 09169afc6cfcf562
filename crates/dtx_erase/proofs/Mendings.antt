-- The packet of a word, by what mended it.
use Rattle.std.proofs.Common.{◌≡◌, ℕ, ℤ, pos, negsuc, suc, ◌+◌, ◌<◌, Bool, true, false, cond, List, [], ◌∷◌, ◌++◌}
use Rattle.std.proofs.Common.{length, map, take, get_or, refl, sym, ap, ap₂, ◌∙◌, arith}
use Rattle.std.specs.Prelude.{Result, Ok, Err, MatchResult}
use Rattle.std.proofs.lemmas.Bool.{ne_eqb}
use Rattle.std.proofs.lemmas.List.{ext_get_or, get_or-map, length-map}
use Rattle.dtx_packets.specs.Packets.{with_error}
use Rattle.dtx_receiver.specs.declared.batch.Received.{Received}
use Rattle.dtx_receiver.specs.Packets.{received_by}
use Rattle.dtx_laws.specs.Whitening.{whitened}
use Rattle.dtx_whiten.specs.Randomizer.{randomizer_bytes}
use Rattle.dtx_erase.specs.Marks.{shown, is_set}
use Rattle.dtx_erase.specs.Mending.{lost, IsAnswered}
use Rattle.dtx_erase.specs.Mended.{mending}
use Rattle.dtx_erase.proofs.ChosenLemmas.{mending_only, mending_never}

pub received_is : {E : Type 0} (from : ℕ) (marks : List Bool) (word new head : List ℕ) (r : Result ℕ E) (out : Received)
    → length word ≡ 207 → length marks ≡ 207 → head ≡ whitened randomizer_bytes from (take 187 new)
    → IsAnswered 207 187 marks word new r
    → MatchResult r (λ fixed. out ≡ record { packet = record { 0 = 0x47 ∷ head }; fixed = fixed; good = true })
    (λ _e. out ≡ record { packet = record { 0 = with_error (0x47 ∷ head) }; fixed = 0; good = false })
    → out ≡ received_by from word (mending 207 187 marks word)
received_is from marks word new head (Ok c) out l m p h o =
    o ∙ ap₂ (λ (head : List ℕ) (c : ℕ). record { packet = record { 0 = 0x47 ∷ head }; fixed = c; good = true })
    p h.changed ∙ ap (received_by from word) (sym (mending_only 207 187 marks word new (omega arith) l m h.mending))
received_is from marks word new head (Err e) out l m p h o = grind (arith, mending_never)

-- of words without marks no place is lost
pub none_lost : (flags : List ℕ) → ((i : ℕ) → get_or flags i 0 ≡ 0) → lost (map is_set flags) ≡ 0
none_lost [] h = refl
none_lost (f ∷ flags) h =
    ap₂ (λ (t : Bool) (n : ℕ). cond t 1 0 + n) (ap is_set (h 0)) (none_lost flags (λ i. h (suc i)))

-- four packets
pub map_four : (f g : ℕ → Received) → ((p : ℕ) → p < 4 → f p ≡ g p)
    → map f (0 ∷ 1 ∷ 2 ∷ 3 ∷ []) ≡ map g (0 ∷ 1 ∷ 2 ∷ 3 ∷ [])
map_four f g h = grind arith

-- behind others
pub push_four : (rs : List Received) (a b c d : Received)
    → (((rs ++ a ∷ []) ++ b ∷ []) ++ c ∷ []) ++ d ∷ [] ≡ rs ++ a ∷ b ∷ c ∷ d ∷ []
push_four [] a b c d = refl
push_four (r ∷ rs) a b c d = ap (λ (xs : List Received). r ∷ xs) (push_four rs a b c d)

-- ---- a symbol as its mark

pub shown_other : (symbol : ℤ) → (symbol ≡ negsuc 127 → ⊥) → shown symbol ≡ negsuc 6
shown_other (pos n) h = refl
shown_other (negsuc n) h = ap (λ t. cond t (pos 7) (negsuc 6)) (ne_eqb n 127 (λ e. h (ap negsuc e)))

-- ---- lists known place by place

pub map_by : {X Y : Type 0} (f : X → Y) (n : ℕ) (xs : List X) (ys : List Y) (d : X) (e : Y) → length xs ≡ n
    → length ys ≡ n → ((j : ℕ) → j < n → get_or ys j e ≡ f (get_or xs j d)) → ys ≡ map f xs
map_by f n xs ys d e l m h = ext_get_or e ys (map f xs) (m ∙ sym (length-map xs f ∙ l))
    (λ j k. h j (omega (arith, k, m)) ∙ sym (get_or-map f xs j d e (omega (arith, k, l, m))))
