-- The text of a log tells its lines.
use Rattle.std.proofs.Common.{◌≡◌, ℕ, ◌<◌, ◌^◌, List, [], ◌∷◌, ◌++◌, length, drop, get_or, refl, sym, ap, ap₂, ◌∙◌}
use Rattle.std.proofs.Common.{arith}
use Rattle.std.specs.Prelude.{codes, decimal}
use Rattle.std.specs.List.{AllByRecursion}
use Rattle.std.specs.Str.Parse.{AllDigits}
use Rattle.std.proofs.lemmas.Fmt.{decimal_is_IsNumeral, decimal_injective}
use Rattle.std.proofs.lemmas.List.{append_assoc}
use Rattle.std.proofs.lemmas.Str.Parse.{digit_at}
use Rattle.dtx_exciter.specs.Log.{Line, preset, mute, restart}
use Rattle.dtx_exciter.specs.declared.answers.Why.{Why}
use Rattle.dtx_exciter.specs.declared.answers.Why.TheVariants.{Cadence, Unlisted, Late}
use Rattle.dtx_files.specs.LogText.{HasNumbers, word_of, line_text, log_text}

-- ---- numbers

-- digits end before the first byte that is none
digits_end : (xs ys us vs : List ℕ) (c d : ℕ) → AllDigits 10 xs → AllDigits 10 ys → c < 48 → d < 48
    → xs ++ c ∷ us ≡ ys ++ d ∷ vs → (xs ≡ ys) × (us ≡ vs)
digits_end [] [] us vs c d h k l m e = (refl, ap (drop 1) e)
digits_end [] (y ∷ ys) us vs c d h k l m e =
    absurd (omega (arith, l, ap (λ (zs : List ℕ). get_or zs 0 0) e, digit_at (y ∷ ys) 0 k (omega arith)))
digits_end (x ∷ xs) [] us vs c d h k l m e =
    absurd (omega (arith, m, ap (λ (zs : List ℕ). get_or zs 0 0) e, digit_at (x ∷ xs) 0 h (omega arith)))
digits_end (x ∷ xs) (y ∷ ys) us vs c d h k l m e =
    let rest = digits_end xs ys us vs c d h.1 k.1 l m (ap (drop 1) e) in
    (ap₂ (λ (z : ℕ) (zs : List ℕ). z ∷ zs) (ap (λ (zs : List ℕ). get_or zs 0 0) e) rest.0, rest.1)

number_told : (m n c d : ℕ) (us vs : List ℕ) → m < 2 ^ 64 → n < 2 ^ 64 → c < 48 → d < 48
    → decimal m ++ c ∷ us ≡ decimal n ++ d ∷ vs → (m ≡ n) × (us ≡ vs)
number_told m n c d us vs h k l p e =
    let parts = digits_end (decimal m) (decimal n) us vs c d (decimal_is_IsNumeral m h).0.1
    (decimal_is_IsNumeral n k).0.1 l p e in
    (decimal_injective m n h k parts.0, parts.1)

-- a number, the byte behind it, and what follows
behind : (n c : ℕ) (us vs t : List ℕ) → us ++ t ≡ vs → (decimal n ++ c ∷ us) ++ t ≡ decimal n ++ c ∷ vs
behind n c us vs t e = append_assoc (decimal n) (c ∷ us) t ∙ ap (λ (z : List ℕ). decimal n ++ c ∷ z) e

-- ---- lines

-- the numbers of a preset, and what follows
numbers_text : ℕ → ℕ → ℕ → ℕ → ℕ → List ℕ → List ℕ
numbers_text a b c d e t =
    decimal a ++ 32 ∷ (decimal b ++ 32 ∷ (decimal c ++ 32 ∷ (decimal d ++ 32 ∷ (decimal e ++ 10 ∷ t))))

preset_text : (a b c d e : ℕ) (t : List ℕ) → drop 7 (line_text (preset a b c d e) ++ t) ≡ numbers_text a b c d e t
unfolding numbers_text
preset_text a b c d e t =
    behind a 32 _ _ t (behind b 32 _ _ t (behind c 32 _ _ t (behind d 32 _ _ t (behind e 10 [] t t refl))))

preset_told : (a b c d e k l m n o : ℕ) (s t : List ℕ) → HasNumbers (preset a b c d e) → HasNumbers (preset k l m n o)
    → line_text (preset a b c d e) ++ s ≡ line_text (preset k l m n o) ++ t
    → (preset a b c d e ≡ preset k l m n o) × (s ≡ t)
unfolding numbers_text
preset_told a b c d e k l m n o s t h j same =
    let all : numbers_text a b c d e s ≡ numbers_text k l m n o t =
    sym (preset_text a b c d e s) ∙ ap (drop 7) same ∙ preset_text k l m n o t in
    let first = number_told a k 32 32 _ _ h.0 j.0 (omega arith) (omega arith) all in
    let second = number_told b l 32 32 _ _ h.1 j.1 (omega arith) (omega arith) first.1 in
    let third = number_told c m 32 32 _ _ h.2 j.2 (omega arith) (omega arith) second.1 in
    let fourth = number_told d n 32 32 _ _ h.3 j.3 (omega arith) (omega arith) third.1 in
    let fifth = number_told e o 10 10 s t h.4 j.4 (omega arith) (omega arith) fourth.1 in (
      ap (λ (x : ℕ). preset x b c d e) first.0
          ∙ ap (λ (x : ℕ). preset k x c d e) second.0
          ∙ ap (λ (x : ℕ). preset k l x d e) third.0
          ∙ ap (λ (x : ℕ). preset k l m x e) fourth.0
          ∙ ap (λ (x : ℕ). preset k l m n x) fifth.0,
      fifth.1,
    )

why_told : (w v : Why) (s t : List ℕ) → (word_of w ++ codes "\n") ++ s ≡ (word_of v ++ codes "\n") ++ t
    → (w ≡ v) × (s ≡ t)
why_told Cadence Cadence s t e = (refl, ap (drop 8) e)
why_told Unlisted Unlisted s t e = (refl, ap (drop 9) e)
why_told Late Late s t e = (refl, ap (drop 5) e)
why_told Cadence Unlisted s t e = absurd (omega (arith, ap (λ (zs : List ℕ). get_or zs 0 0) e))
why_told Cadence Late s t e = absurd (omega (arith, ap (λ (zs : List ℕ). get_or zs 0 0) e))
why_told Unlisted Cadence s t e = absurd (omega (arith, ap (λ (zs : List ℕ). get_or zs 0 0) e))
why_told Unlisted Late s t e = absurd (omega (arith, ap (λ (zs : List ℕ). get_or zs 0 0) e))
why_told Late Cadence s t e = absurd (omega (arith, ap (λ (zs : List ℕ). get_or zs 0 0) e))
why_told Late Unlisted s t e = absurd (omega (arith, ap (λ (zs : List ℕ). get_or zs 0 0) e))

mute_told : (m n : ℕ) (w v : Why) (s t : List ℕ) → m < 2 ^ 64 → n < 2 ^ 64
    → line_text (mute m w) ++ s ≡ line_text (mute n v) ++ t → (mute m w ≡ mute n v) × (s ≡ t)
mute_told m n w v s t h k same =
    let number = number_told m n 32 32 ((word_of w ++ codes "\n") ++ s) ((word_of v ++ codes "\n") ++ t) h k
    (omega arith) (omega arith)
    (sym (behind m 32 (word_of w ++ codes "\n") _ s refl) ∙ ap (drop 5) same
    ∙ behind n 32 (word_of v ++ codes "\n") _ t refl) in
    let why = why_told w v s t number.1 in
    (ap₂ (λ (x : ℕ) (y : Why). mute x y) number.0 why.0, why.1)

restart_told : (m n : ℕ) (s t : List ℕ) → m < 2 ^ 64 → n < 2 ^ 64
    → line_text (restart m) ++ s ≡ line_text (restart n) ++ t → (restart m ≡ restart n) × (s ≡ t)
restart_told m n s t h k same =
    let number = number_told m n 10 10 s t h k (omega arith) (omega arith)
    (sym (behind m 10 [] s s refl) ∙ ap (drop 8) same ∙ behind n 10 [] t t refl) in
    (ap (λ (x : ℕ). restart x) number.0, number.1)

-- the first line, and what follows
line_told : (x y : Line) (s t : List ℕ) → HasNumbers x → HasNumbers y → line_text x ++ s ≡ line_text y ++ t
    → (x ≡ y) × (s ≡ t)
line_told (preset a b c d e) (preset k l m n o) s t h j same = preset_told a b c d e k l m n o s t h j same
line_told (mute m w) (mute n v) s t h j same = mute_told m n w v s t h j same
line_told (restart m) (restart n) s t h j same = restart_told m n s t h j same
line_told (preset a b c d e) (mute n v) s t h j same = absurd (omega (arith, ap (λ (zs : List ℕ). get_or zs 0 0) same))
line_told (preset a b c d e) (restart n) s t h j same =
    absurd (omega (arith, ap (λ (zs : List ℕ). get_or zs 0 0) same))
line_told (mute m w) (preset k l i n o) s t h j same = absurd (omega (arith, ap (λ (zs : List ℕ). get_or zs 0 0) same))
line_told (mute m w) (restart n) s t h j same = absurd (omega (arith, ap (λ (zs : List ℕ). get_or zs 0 0) same))
line_told (restart m) (preset k l i n o) s t h j same =
    absurd (omega (arith, ap (λ (zs : List ℕ). get_or zs 0 0) same))
line_told (restart m) (mute n v) s t h j same = absurd (omega (arith, ap (λ (zs : List ℕ). get_or zs 0 0) same))

some_text : (y : Line) (t : List ℕ) → 0 < length (line_text y ++ t)
some_text (preset a b c d e) t = omega arith
some_text (mute n why) t = omega arith
some_text (restart n) t = omega arith

-- ---- logs

pub lines_told : (lines others : List Line) → AllByRecursion HasNumbers lines → AllByRecursion HasNumbers others
    → log_text lines ≡ log_text others → lines ≡ others
lines_told [] [] h k same = refl
lines_told [] (y ∷ ys) h k same = absurd (omega (arith, ap length same, some_text y (log_text ys)))
lines_told (x ∷ xs) [] h k same = absurd (omega (arith, ap length same, some_text x (log_text xs)))
lines_told (x ∷ xs) (y ∷ ys) h k same =
    let first = line_told x y (log_text xs) (log_text ys) h.0 k.0 same in
    ap₂ (λ (z : Line) (zs : List Line). z ∷ zs) first.0 (lines_told xs ys h.1 k.1 first.1)
