-- Lemmas of a watcher's text: that of more notes goes on behind, and its words are those of its notes.
use Rattle.std.proofs.Common.{◌≡◌, ℕ, zero, suc, ◌+◌, ◌/◌, ◌%◌, ◌≤◌, ◌==◌, Bool, true, false, cond, List, [], ◌∷◌, ◌++◌}
use Rattle.std.proofs.Common.{map, refl, sym, ap, ap₂, ◌∙◌, arith, codes, decimal, append-nil, append_assoc}
use Rattle.std.specs.Fmt.{digits, digits_onto, digit_glyph}
use Rattle.std.specs.List.{All, AllByRecursion, flat_map, slice_split}
use Rattle.std.proofs.lemmas.Grind.{flat_map-append}
use Rattle.std.proofs.lemmas.List.Elements.{All-append, All-cons, All-from_recursion, All-nil, All-weaker}
use Rattle.std.proofs.lemmas.List.Splits.{slice_split_at, slice_split_none}
use Rattle.dtx_watch.specs.declared.notes.ClockNote.{ClockNote}
use Rattle.dtx_watch.specs.declared.notes.ClockNote.TheVariants as clock
use Rattle.dtx_watch.specs.declared.notes.Note.{Note}
use Rattle.dtx_watch.specs.declared.notes.StatesNote.{StatesNote}
use Rattle.dtx_watch.specs.declared.notes.StatesNote.TheVariants as states
use Rattle.dtx_watch.specs.declared.notes.NoteKind.{NoteKind}
use Rattle.dtx_watch.specs.declared.notes.NoteKind.TheVariants as what
use Rattle.dtx_watch.specs.WatchText.{words_of_lines, first_word, later_words, note_words, states_word, clock_word}
use Rattle.dtx_watch.specs.WatchText.{note_head, note_end, note_text, watch_text}

-- ---- more notes

pub watch_text-append : (xs ys : List Note) → watch_text (xs ++ ys) ≡ watch_text xs ++ watch_text ys
watch_text-append xs ys = flat_map-append note_text xs ys

-- ---- words

-- a word has no space, no line feed, nor any other byte up to a space
abbrev pub IsWord : List ℕ → Type 0
IsWord word = All (λ b. 33 ≤ b) word

glyph : (upper : Bool) (d : ℕ) → 33 ≤ cond upper (48 + d) (87 + d)
glyph true d = omega arith
glyph false d = omega arith

either_word : (b : Bool) (xs ys : List ℕ) → IsWord xs → IsWord ys → IsWord (cond b xs ys)
either_word true xs ys h k = h
either_word false xs ys h k = k

digits_word : (k n : ℕ) (acc : List ℕ) → IsWord acc → IsWord (digits_onto k 10 false n acc)
digits_word zero n acc h = h
digits_word (suc k) n acc h = either_word (n / 10 == 0) (digit_glyph false (n % 10) ∷ acc)
    (digits_onto k 10 false (n / 10) (digit_glyph false (n % 10) ∷ acc)) (grind (arith, All-cons, glyph))
    (digits_word k (n / 10) (digit_glyph false (n % 10) ∷ acc) (grind (arith, All-cons, glyph)))

pub number : (n : ℕ) → IsWord (decimal n)
unfolding digits
number n = digits_word 64 n [] (All-nil (λ b. 33 ≤ b))

pub spelled : (word : List ℕ) → AllByRecursion (λ b. 33 ≤ b) word → IsWord word
spelled word h = All-from_recursion (λ b. 33 ≤ b) word h

first_is : (w : NoteKind) → IsWord (first_word w)
first_is what.Lock = spelled (codes "lock") (omega arith, (omega arith, (omega arith, (omega arith, tt))))
first_is what.Lost = spelled (codes "lost") (omega arith, (omega arith, (omega arith, (omega arith, tt))))
first_is (what.Unread refusal) = grind (arith, spelled)
first_is (what.Stray frame index) = grind (arith, spelled)
first_is (what.Ops o) = spelled (codes "ops") (omega arith, (omega arith, (omega arith, tt)))

states_is : (s : StatesNote) → IsWord (states_word s)
states_is states.Early = grind (arith, spelled)
states_is states.First = grind (arith, spelled)
states_is states.Right =
    spelled (codes "right") (omega arith, (omega arith, (omega arith, (omega arith, (omega arith, tt)))))
states_is states.Slip = spelled (codes "slip") (omega arith, (omega arith, (omega arith, (omega arith, tt))))

clock_is : (c : ClockNote) → IsWord (clock_word c)
clock_is clock.First = grind (arith, spelled)
clock_is clock.Right = grind (arith, spelled)
clock_is clock.Jump = spelled (codes "jump") (omega arith, (omega arith, (omega arith, (omega arith, tt))))

later_are : (k : ℕ) (w : NoteKind) → AllByRecursion IsWord (later_words k w)
later_are k what.Lock = (number k, tt)
later_are k what.Lost = (number k, tt)
later_are k (what.Unread refusal) = (number k, (number _, tt))
later_are k (what.Stray frame index) = (number k, (number frame, (number index, tt)))
later_are k (what.Ops o) = grind (arith, number, states_is, clock_is)

-- ---- a line

-- words, each behind a space
abbrev pub spaced : List (List ℕ) → List ℕ
spaced words = flat_map (λ word. 32 ∷ word) words

no_space : (word : List ℕ) → IsWord word → All (λ b. (b == 32) ≡ false) word
no_space word h = grind (arith, All-weaker)

pub words_cut : (word : List ℕ) (words : List (List ℕ)) → IsWord word → AllByRecursion IsWord words
    → slice_split (λ b. b == 32) (word ++ spaced words) ≡ word ∷ words
words_cut word [] h k = grind (arith, append-nil, slice_split_none, no_space)
words_cut word (next ∷ words) h k = slice_split_at (λ b. b == 32) word 32 (next ++ spaced words) (no_space word h) refl
    ∙ ap (λ rest. word ∷ rest) (words_cut next words k.0 k.1)

-- no line feed is in it
spaced_long : (words : List (List ℕ)) → AllByRecursion IsWord words → All (λ b. 32 ≤ b) (spaced words)
spaced_long [] h = All-nil (λ b. 32 ≤ b)
spaced_long (word ∷ words) h = All-append (λ b. 32 ≤ b) (32 ∷ word) (spaced words)
    (All-cons (λ b. 32 ≤ b) 32 word (omega arith) (grind (arith, All-weaker))) (spaced_long words h.1)

pub one_line : (word : List ℕ) (words : List (List ℕ)) → IsWord word → AllByRecursion IsWord words
    → All (λ b. (b == 10) ≡ false) (word ++ spaced words)
one_line word words h k = All-weaker (λ b. 32 ≤ b) (λ b. (b == 10) ≡ false) (λ b l. grind arith) (word ++ spaced words)
    (All-append (λ b. 32 ≤ b) word (spaced words) (grind (arith, All-weaker)) (spaced_long words k))

line_is : (k : ℕ) (w : NoteKind) → note_head k w ++ note_end w ≡ (first_word w ++ spaced (later_words k w)) ++ 10 ∷ []
line_is k what.Lock = refl
line_is k what.Lost = refl
line_is k (what.Unread refusal) = refl
line_is k (what.Stray frame index) = refl
line_is k (what.Ops o) =
    let numbers : List (List ℕ) =
    decimal k ∷ decimal o.frame ∷ decimal o.index ∷ decimal o.stamp ∷ decimal o.max_delay ∷ decimal o.listed ∷ [] in
    let ends : List (List ℕ) = states_word o.states ∷ clock_word o.clock ∷ [] in
    ap (λ z. (codes "ops" ++ spaced numbers) ++ 32 ∷ z) (grind (arith, append-nil))
    ∙ sym (append_assoc (codes "ops" ++ spaced numbers) (spaced ends) (10 ∷ []))
    ∙ ap (λ z. z ++ 10 ∷ []) (append_assoc (codes "ops") (spaced numbers) (spaced ends)
    ∙ ap (λ z. codes "ops" ++ z) (sym (flat_map-append (λ word. 32 ∷ word) numbers ends)))

-- ---- all lines

pub words_of-watch_text : (notes : List Note)
    → words_of_lines (watch_text notes) ≡ map note_words notes ++ ([] ∷ []) ∷ []
unfolding note_text
words_of-watch_text [] = refl
words_of-watch_text (note ∷ notes) =
    let word : List ℕ = first_word note.what in
    let words : List (List ℕ) = later_words note.packet note.what in
    let line : List ℕ = word ++ spaced words in
    let rest : List ℕ = watch_text notes in
    let text : watch_text (note ∷ notes) ≡ line ++ 10 ∷ rest = simp (line_is, append_assoc) in
    ap words_of_lines text ∙ ap (map (slice_split (λ b. b == 32))) (slice_split_at (λ b. b == 10) line 10 rest
    (one_line word words (first_is note.what) (later_are note.packet note.what)) refl)
    ∙ ap₂ (λ ws more. ws ∷ more) (grind (arith, words_cut, first_is, later_are)) (words_of-watch_text notes)
