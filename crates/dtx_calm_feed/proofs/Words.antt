-- A calm text is that of calm notes.
use Rattle.std.proofs.Common.{◌≡◌, ℕ, zero, suc, ◌+◌, ◌<◌, ◌≤◌, ◌⊎◌, inl, inr, Bool, true, false, cond, List, [], ◌∷◌}
use Rattle.std.proofs.Common.{◌++◌, length, map, refl, sym, ap, subst, ◌∙◌, arith, codes, slice_index_or}
use Rattle.std.specs.List.{AllByRecursion, count_by, flat_map, range_with_len}
use Rattle.std.specs.Str.{bytes_eq}
use Rattle.std.proofs.lemmas.List.Sums.{sum_by-cons}
use Rattle.dtx_watch.specs.Watch.{notes_at, notes_to, watch}
use Rattle.dtx_watch.specs.WatchText.{first_word, lines_with, note_words, watch_text}
use Rattle.dtx_watch.proofs.WatchLinesLemmas.{words_of-watch_text}
use Rattle.dtx_watch.specs.declared.notes.Note.{Note}
use Rattle.dtx_watch.specs.declared.notes.NoteKind.{NoteKind}
use Rattle.dtx_watch.specs.declared.notes.NoteKind.TheVariants.{Lock, Lost, Unread, Stray, Ops as OpsAt}
use Rattle.dtx_calm_feed.specs.Calm.{IsCalmNote, IsCalmText, IsCalmWhat}

-- ---- a count of none

abbrev ends : List (List (List ℕ))
ends = ([] ∷ []) ∷ []

none_here : (p : List (List ℕ) → Bool) (note : Note) (notes : List Note) (t : Bool) → p (note_words note) ≡ t
    → cond t 1 0 + count_by p (map note_words notes ++ ends) ≡ 0
    → (count_by p (map note_words notes ++ ends) ≡ 0 → AllByRecursion (λ n. p (note_words n) ≡ false) notes)
    → AllByRecursion (λ n. p (note_words n) ≡ false) (note ∷ notes)
none_here p note notes true e f more = absurd (omega (arith, f))
none_here p note notes false e f more = (e, more (omega (arith, f)))

none_counted : (p : List (List ℕ) → Bool) (notes : List Note) → count_by p (map note_words notes ++ ends) ≡ 0
    → AllByRecursion (λ n. p (note_words n) ≡ false) notes
none_counted p [] e = tt
none_counted p (note ∷ notes) e = none_here p note notes (p (note_words note)) refl
    (sym (sum_by-cons (λ ws. cond (p ws) 1 0) (note_words note) (map note_words notes ++ ends)) ∙ e)
    (λ f. none_counted p notes f)

-- no note's line has this word at this place
abbrev HasNot : ℕ → List ℕ → Note → Type 0
HasNot place word note = bytes_eq (slice_index_or (note_words note) place []) word ≡ false

none_with : (place : ℕ) (word : List ℕ) (notes : List Note) → lines_with place word (watch_text notes) ≡ 0
    → AllByRecursion (HasNot place word) notes
unfolding lines_with
none_with place word notes e = none_counted (λ words. bytes_eq (slice_index_or words place []) word) notes
    (ap (count_by (λ words. bytes_eq (slice_index_or words place []) word)) (sym (words_of-watch_text notes)) ∙ e)

-- ---- one note

what_calm : (k : ℕ) (w : NoteKind) → bytes_eq (first_word w) (codes "lost") ≡ false
    → bytes_eq (first_word w) (codes "unread") ≡ false → bytes_eq (first_word w) (codes "stray") ≡ false
    → HasNot 7 (codes "slip") (record { packet = k; what = w })
    → HasNot 8 (codes "jump") (record { packet = k; what = w }) → IsCalmWhat w
what_calm k Lock a b c d e = tt
what_calm k Lost a b c d e = cc
what_calm k (Unread refusal) a b c d e = cc
what_calm k (Stray frame index) a b c d e = cc
what_calm k (OpsAt o) a b c d e = grind arith

all_calm : (notes : List Note) → AllByRecursion (HasNot 0 (codes "lost")) notes
    → AllByRecursion (HasNot 0 (codes "unread")) notes → AllByRecursion (HasNot 0 (codes "stray")) notes
    → AllByRecursion (HasNot 7 (codes "slip")) notes → AllByRecursion (HasNot 8 (codes "jump")) notes
    → AllByRecursion IsCalmNote notes
all_calm [] a b c d e = tt
all_calm (note ∷ notes) a b c d e =
    (what_calm note.packet note.what a.0 b.0 c.0 d.0 e.0, all_calm notes a.1 b.1 c.1 d.1 e.1)

-- ---- all notes

left : (P : Note → Type 0) (xs ys : List Note) → AllByRecursion P (xs ++ ys) → AllByRecursion P xs
left P [] ys h = tt
left P (x ∷ xs) ys h = (h.0, left P xs ys h.1)

right : (P : Note → Type 0) (xs ys : List Note) → AllByRecursion P (xs ++ ys) → AllByRecursion P ys
right P [] ys h = h
right P (x ∷ xs) ys h = right P xs ys h.1

all_next : (P : Note → Type 0) (f : ℕ → List Note) (a k : ℕ) (rest : List Note) → AllByRecursion P (f a ++ rest)
    → (AllByRecursion P rest → a + 1 ≤ k → AllByRecursion P (f k)) → (a ≡ k) ⊎ (a + 1 ≤ k) → AllByRecursion P (f k)
all_next P f a k rest h more (inl e) = subst (λ i. AllByRecursion P (f i)) e (left P (f a) rest h)
all_next P f a k rest h more (inr g) = more (right P (f a) rest h) g

pub all_at : (P : Note → Type 0) (f : ℕ → List Note) (a n k : ℕ)
    → AllByRecursion P (flat_map f (range_with_len a n)) → a ≤ k → k < a + n → AllByRecursion P (f k)
all_at P f a zero k h l m = absurd (omega (arith, l, m))
all_at P f a (suc n) k h l m = all_next P f a k (flat_map f (range_with_len (a + 1) n)) h
    (λ rest g. all_at P f (a + 1) n k rest g (omega (arith, m))) (grind arith)

pub text_calm : (packets : List (List ℕ)) (k : ℕ) → IsCalmText (watch_text (watch packets)) → k < length packets
    → AllByRecursion IsCalmNote (notes_at packets k)
unfolding notes_to
text_calm packets k t l = all_at IsCalmNote (notes_at packets) 0 (length packets) k (grind (arith, all_calm, none_with))
    (omega arith) (omega (arith, l))
