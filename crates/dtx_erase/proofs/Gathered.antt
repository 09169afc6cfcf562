-- The words that a de-interleaver gives, group by group of a run's bytes.
use Rattle.std.proofs.Common.{◌≡◌, ℕ, zero, suc, ◌+◌, ◌-◌, ◌*◌, ◌%◌, ◌<◌, ◌≤◌, List, [], ◌∷◌, ◌++◌, length, get_or}
use Rattle.std.proofs.Common.{take, drop, sym, ap, ◌∙◌, subst, inl, inr, ◌⊎◌, arith}
use Rattle.std.proofs.lemmas.List.{length-append, length-drop, length-take-le, take_all, take-take, drop-take}
use Rattle.std.proofs.lemmas.List.{drop-append-le, take-append-le, drop-drop, get_or-take, get_or-drop}
use Rattle.std.proofs.lemmas.Bool.{cases_lt}
use Rattle.dtx_laws.specs.Branches.{Branching, HasWidths, gathering, leaving_all, after_all}
use Rattle.dtx_laws.proofs.PlacesLemmas.{length_leaving, leaving_append, after_append}
use Rattle.dtx_outer.specs.Inner.{word_at, IsComplete}
use Rattle.dtx_outer.proofs.WordsLemmas.{word_by, gathers_word, word_stays}
use Rattle.dtx_receiver.proofs.CompleteLemmas.{complete_all}
use Rattle.dtx_erase.specs.Sides.{AreWords, Gathers}

-- ---- lists

drop_past : (us ls : List ℕ) (n m : ℕ) → m ≡ length us + n → drop m (us ++ ls) ≡ drop n ls
drop_past [] ls n m e = ap (λ i. drop i ls) (omega arith)
drop_past (x ∷ us) ls n zero e = absurd (omega (arith, e))
drop_past (x ∷ us) ls n (suc m) e = drop_past us ls n m (omega (arith, e))

take_front : (us ls : List ℕ) (n m : ℕ) → m ≡ length us + n → take m (us ++ ls) ≡ us ++ take n ls
take_front [] ls n m e = ap (λ i. take i ls) (omega arith)
take_front (x ∷ us) ls n zero e = absurd (omega (arith, e))
take_front (x ∷ us) ls n (suc m) e = ap (λ xs. x ∷ xs) (take_front us ls n m (omega (arith, e)))

-- what was written behind the first 156
pub laid_behind : (old ys rest : List ℕ) (r : ℕ) → 156 ≤ length old → r ≤ length ys
    → take r (drop 156 (take 156 old ++ (ys ++ rest))) ≡ take r ys
laid_behind old ys rest r l m =
    ap (take r) (drop_past (take 156 old) (ys ++ rest) 0 156 (omega (arith, length-take-le 156 old l)))
    ∙ take-append-le r ys rest m

-- and then other bytes in place of these
pub passed_through : (begun old ys rest : List ℕ) (n : ℕ) → length begun ≡ 156 → 156 ≤ length old → length ys ≡ n
    → take (156 + n) (begun ++ drop 156 (take 156 old ++ (ys ++ rest))) ≡ begun ++ ys
passed_through begun old ys rest n b l m =
    take_front begun (drop 156 (take 156 old ++ (ys ++ rest))) n (156 + n) (omega (arith, b))
    ∙ ap (λ zs. begun ++ zs) (laid_behind old ys rest n l (omega (arith, m)) ∙ take_all n ys (omega (arith, m)))

-- ---- a word

leaves : (start : Branching) (z : List ℕ) (k b c : ℕ) → HasWidths 52 (gathering 52 4) start → start.next ≡ 0
    → b + c ≡ 10608 + 207 * k → 10608 + 207 * k + 207 ≤ length z
    → take 207 (drop c (drop b (leaving_all 52 start z))) ≡ word_at 207 52 4 z k
leaves start z k b c w a e l = word_by 207 52 4 z k (take 207 (drop c (drop b (leaving_all 52 start z)))) long
    (λ j m. let at : b + (c + j) ≡ 207 * k + j + 10608 = omega (arith, e) in
    get_or-take 207 (drop c (drop b (leaving_all 52 start z))) j 0 m
    ∙ get_or-drop c (drop b (leaving_all 52 start z)) j 0 ∙ get_or-drop b (leaving_all 52 start z) (c + j) 0
    ∙ ap (λ i. get_or (leaving_all 52 start z) i 0) at
    ∙ gathers_word 52 4 start z (207 * k + j) (omega arith) w a (omega (arith, l, m)))
  where
    long : length (take 207 (drop c (drop b (leaving_all 52 start z)))) ≡ 207
    long = length-take-le 207 (drop c (drop b (leaving_all 52 start z))) (grind (arith, length-drop, length_leaving))

-- ---- what is kept

pub gathers_first : (held : Branching) (begun y : List ℕ) (g : ℕ) → HasWidths 52 (gathering 52 4) held
    → held.next ≡ 0 → y ≡ [] → g ≡ 0 → Gathers held begun g y
unfolding after_all
gathers_first held begun y g w a e z = record {
  start = held;
  widths = w;
  aligned = a;
  given = ap length e ∙ ap (λ n. 828 * n) (sym z);
  branches = sym (ap (after_all 52 held) e);
  rest = λ l. absurd (omega (arith, l, z));
}

pub gathers_stay : (held : Branching) (begun : List ℕ) (g h : ℕ) (y z : List ℕ) → g ≡ h → y ≡ z
    → Gathers held begun g y → Gathers held begun h z
gathers_stay held begun g h y z e f s = subst (λ (n : ℕ). Gathers held begun n z) e (rw (← f) s)

-- the end of what was gathered, with more bytes behind it
joined : (held : Branching) (begun : List ℕ) (g : ℕ) (y more : List ℕ) (s : Gathers held begun g y) → 0 < g
    → begun ++ leaving_all 52 held more ≡ drop (828 * g - 156) (leaving_all 52 s.start (y ++ more))
joined held begun g y more s l = grind (arith, leaving_append, drop-append-le, length_leaving)

-- what is gathered of h groups: their bytes left behind those that begin a word
pub record Passed (held new : Branching) (begun all ends : List ℕ) (h : ℕ) (more : List ℕ) : Type 0 where
  pub few : h ≤ 13
  pub long : length begun ≡ 156
  pub bytes : length more ≡ 828 * h
  pub branches : new ≡ after_all 52 held more
  pub gathered : take (156 + 828 * h) all ≡ begun ++ leaving_all 52 held more
  pub ends_are : ends ≡ take 156 (drop (828 * h) all)

-- the last of them
ends_begun : (held new : Branching) (begun all ends : List ℕ) (h : ℕ) (more : List ℕ)
    → Passed held new begun all ends h more → ends ≡ drop (828 * h) (begun ++ leaving_all 52 held more)
ends_begun held new begun all ends h more p = p.ends_are ∙ sym (drop-take (828 * h) 156 all) ∙ grind arith

pub gathers_more : (held new : Branching) (begun all ends : List ℕ) (g h : ℕ) (y more : List ℕ)
    → Gathers held begun g y → Passed held new begun all ends h more → Gathers new ends (g + h) (y ++ more)
gathers_more held new begun all ends g h y more s p = record {
  start = s.start;
  widths = s.widths;
  aligned = s.aligned;
  given = length-append y more ∙ omega (arith, s.given, p.bytes);
  branches = p.branches ∙ ap (λ v. after_all 52 v more) s.branches ∙ sym (after_append 52 s.start y more);
  rest = λ l. ends_begun held new begun all ends h more p ∙ by_groups l (cases_lt 0 g);
}
  where
    by_groups : 0 < g + h → (0 < g) ⊎ (g ≤ 0) → drop (828 * h) (begun ++ leaving_all 52 held more)
        ≡ drop (828 * (g + h) - 156) (leaving_all 52 s.start (y ++ more))
    by_groups l (inl m) = ap (drop (828 * h)) (joined held begun g y more s m)
        ∙ drop-drop (828 * h) (828 * g - 156) (leaving_all 52 s.start (y ++ more))
        ∙ ap (λ n. drop n (leaving_all 52 s.start (y ++ more))) (omega (arith, m))
    by_groups l (inr m) =
        drop_past begun (leaving_all 52 held more) (828 * h - 156) (828 * h) (omega (arith, p.long, l, m))
        ∙ grind (arith, leaving_append, drop_past, length_leaving)

-- a part of the front
front : (n a : ℕ) (xs : List ℕ) → a + 207 ≤ n → take 207 (drop a xs) ≡ take 207 (drop a (take n xs))
front n a xs l = sym (ap (λ i. take 207 (drop a (take i xs))) (omega (arith, l))
    ∙ ap (take 207) (drop-take a (n - a) xs) ∙ take-take 207 (n - a) (drop a xs) (omega (arith, l)))

pub words_more : (held new : Branching) (begun all ends : List ℕ) (g h : ℕ) (y more : List ℕ)
    → Gathers held begun g y → Passed held new begun all ends h more → AreWords all g h (y ++ more)
words_more held new begun all ends g h y more s p k q l e =
    let some : 0 < g = omega (arith, l, e, p.few) in
    front (156 + 828 * h) (207 * q) all (omega (arith, l))
    ∙ ap (λ xs. take 207 (drop (207 * q) xs)) (p.gathered ∙ joined held begun g y more s some)
    ∙ leaves s.start (y ++ more) k (828 * g - 156) (207 * q) s.widths s.aligned (omega (arith, e, some))
    (omega (arith, e, l, length-append y more, s.given, p.bytes))

-- the word that is left at the end of a run
pub gathers_last : (held : Branching) (begun : List ℕ) (g k : ℕ) (y more word : List ℕ) → Gathers held begun g y
    → length begun ≡ 156 → length more ≡ 51 → k + 52 ≡ 4 * g → k % 52 ≡ 0
    → word ≡ begun ++ leaving_all 52 held more → word ≡ word_at 207 52 4 y k
gathers_last held begun g k y more word s l m e z f =
    let long : length (begun ++ leaving_all 52 held more) ≡ 207 =
    length-append begun (leaving_all 52 held more) ∙ omega (arith, length_leaving 52 held more, l, m) in
    let there : 207 * (4 * g) ≡ length y = omega (arith, s.given) in
    f ∙ sym (take_all 207 (begun ++ leaving_all 52 held more) (omega (arith, long)))
    ∙ ap (take 207) (joined held begun g y more s (omega (arith, e)))
    ∙ leaves s.start (y ++ more) k (828 * g - 156) 0 s.widths s.aligned (omega (arith, e))
    (omega (arith, e, length-append y more, s.given, m))
    ∙ word_stays 207 52 4 y more k (subst (λ (n : ℕ). IsComplete 207 52 4 n k) there (complete_all (4 * g) k
    (inr (e, z))))
