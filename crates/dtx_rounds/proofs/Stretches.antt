-- The stretches of a word: bytes that stand 209 apart in the field where the word begins, or in the one behind it. One
-- stretch joins the other, up to the word's end.
use Rattle.std.proofs.Common.{◌≡◌, ◌≢◌, ℕ, ◌+◌, ◌-◌, ◌*◌, ◌%◌, ◌<◌, ◌≤◌, inl, inr, ◌++◌, Option, Some, None, List}
use Rattle.std.proofs.Common.{length, get_or, sym, ap, ◌∙◌, subst, arith}
use Rattle.std.proofs.lemmas.Bool.{cases_lt}
use Rattle.std.proofs.lemmas.List.{get_or_append_left, get_or-append_right}
use Rattle.dtx_outer.specs.Inner.{codeword_byte_place}

-- byte i of word k stands here
abbrev pub place : ℕ → ℕ → ℕ
place k i = codeword_byte_place 52 4 (207 * k + i)

-- so many bytes of word k, from byte j on, stand 209 apart from a place on
abbrev pub IsStretch : (k j count at : ℕ) → Type 0
IsStretch k j count at = (i : ℕ) → i < count → codeword_byte_place 52 4 (207 * k + j + i) ≡ at + 209 * i

spaced : (k j count at : ℕ) → IsStretch k j count at → (i : ℕ) → i < count → place k (j + i) ≡ at + 209 * i
spaced k j count at h i l = ap (codeword_byte_place 52 4) (joined (207 * k) j i) ∙ h i l
  where
    joined : (a j i : ℕ) → a + (j + i) ≡ a + j + i
    joined a j i = omega arith

-- it ends within the bytes that are there, where the word does
pub stretch_there : (k j count at given : ℕ) → IsStretch k j count at → 0 < count → j + count ≤ 207
    → ((i : ℕ) → i < 207 → place k i < given) → at + 209 * count < given + 209
stretch_there k j count at given s some within whole = omega (
  arith,
  some,
  spaced k j count at s (count - 1) (omega (arith, some)),
  whole (j + (count - 1)) (omega (arith, within)),
)

-- what holds before byte j, and of so many bytes from there on
joined : (P : ℕ → Type 0) (j count : ℕ) → ((i : ℕ) → i < j → P i) → ((i : ℕ) → i < count → P (j + i)) → (i : ℕ)
    → i < j + count → P i
joined P j count before from i l = elim (cases_lt i j) [
  | inl h ↦ before i h
  | inr h ↦
      let back : j + (i - j) ≡ i = omega (arith, h) in subst P back (from (i - j) (omega (arith, l, h)))
]

-- ---- gathered

-- a word that is gathered from these bytes as far as byte j
pub record IsGathered (bytes word : List ℕ) (k j : ℕ) : Type 0 where
  pub within : j ≤ 207
  pub long : length word ≡ 207
  pub gathered : (i : ℕ) → i < j → get_or word i 0 ≡ get_or bytes (place k i) 0

pub gathered_on : (bytes word new : List ℕ) (k j count at : ℕ) → IsStretch k j count at → j + count ≤ 207
    → IsGathered bytes word k j → length new ≡ 207
    → ((i : ℕ) → i < count → get_or new (j + i) 0 ≡ get_or bytes (at + 209 * i) 0)
    → ((i : ℕ) → i < j → get_or new i 0 ≡ get_or word i 0) → IsGathered bytes new k (j + count)
gathered_on bytes word new k j count at s within h long gathered before = record {
  within = within;
  long = long;
  gathered = joined (λ i. get_or new i 0 ≡ get_or bytes (place k i) 0) j count (λ i l. before i l ∙ h.gathered i l)
      (λ i l. gathered i l ∙ ap (λ n. get_or bytes n 0) (sym (spaced k j count at s i l)));
}

pub from_front : (bytes behind : List ℕ) (at i count : ℕ) → at + 209 * count < length bytes + 209 → i < count
    → get_or bytes (at + 209 * i) 0 ≡ get_or (bytes ++ behind) (at + 209 * i) 0
from_front bytes behind at i count room l = grind (arith, get_or_append_left)

pub from_behind : (bytes behind : List ℕ) (at i first : ℕ) → length bytes ≡ first → first ≤ at
    → get_or behind (at - first + 209 * i) 0 ≡ get_or (bytes ++ behind) (at + 209 * i) 0
from_behind bytes behind at i first long l = grind (arith, get_or-append_right)

-- ---- laid

-- the places of so many bytes of a word hold these, and all others what they held
pub record IsLaid (word : List ℕ) (j count at : ℕ) (old new : List (Option ℕ)) : Type 0 where
  pub laid : (i : ℕ) → i < count → get_or new (at + 209 * i) None ≡ Some (get_or word (j + i) 0)
  pub others : (n : ℕ) → ((i : ℕ) → i < count → n ≢ at + 209 * i) → get_or new n None ≡ get_or old n None

pub laid_front : (word : List ℕ) (j count at : ℕ) (old new next : List (Option ℕ)) → length new ≡ length old
    → at + 209 * count < length old + 209 → IsLaid word j count at old new
    → IsLaid word j count at (old ++ next) (new ++ next)
laid_front word j count at old new next same room h = grind (arith, get_or_append_left, cases_lt, get_or-append_right)

pub laid_behind : (word : List ℕ) (j count at first : ℕ) (known old new : List (Option ℕ)) → length known ≡ first
    → first ≤ at → IsLaid word j count (at - first) old new → IsLaid word j count at (known ++ old) (known ++ new)
laid_behind word j count at first known old new long front h = record {
  laid = λ i l. get_or-append_right known new first (at + 209 * i) None long (omega (arith, front))
      ∙ ap (λ n. get_or new n None) (back i) ∙ h.laid i l;
  others = λ n ne. elim (cases_lt n first) [
    | inl l ↦ get_or_append_left known new None n (omega (arith, l, long))
        ∙ sym (get_or_append_left known old None n (omega (arith, l, long)))
    | inr l ↦ get_or-append_right known new first n None long l
        ∙ h.others (n - first) (λ i m e. ne i m (omega (arith, e, l, front)))
        ∙ sym (get_or-append_right known old first n None long l)
  ];
}
  where
    back : (i : ℕ) → at + 209 * i - first ≡ at - first + 209 * i
    back i = omega (arith, front)

-- a word that is laid back as far as byte j
pub record IsLaidTo (word : List ℕ) (k j : ℕ) (old new : List (Option ℕ)) : Type 0 where
  pub within : j ≤ 207
  pub laid : (i : ℕ) → i < j → get_or new (place k i) None ≡ Some (get_or word i 0)
  pub others : (n : ℕ) → ((i : ℕ) → i < 207 → n ≢ place k i) → get_or new n None ≡ get_or old n None

pub laid_on : (word : List ℕ) (k j count at : ℕ) (first old new : List (Option ℕ)) → IsStretch k j count at
    → j + count ≤ 207 → IsLaidTo word k j first old → IsLaid word j count at old new
    → IsLaidTo word k (j + count) first new
laid_on word k j count at first old new s within h one = record {
  within = within;
  laid = joined (λ i. get_or new (place k i) None ≡ Some (get_or word i 0)) j count (λ i l. one.others (place k i)
      (λ m b e. apart (207 * k + i) (207 * k + (j + m)) (omega (arith, l))
      (e ∙ sym (spaced k j count at s m b))) ∙ h.laid i l) (λ i l. rw (spaced k j count at s i l, one.laid i l));
  others = λ n ne. one.others n
      (λ m b e. ne (j + m) (omega (arith, b, within)) (e ∙ sym (spaced k j count at s m b))) ∙ h.others n ne;
}
  where
    -- two bytes of a word have two places
    apart : (p q : ℕ) → p < q → p + 52 * 4 * (p % 52) ≡ q + 52 * 4 * (q % 52) → ⊥
    apart p q l e = omega (arith, l, e)
