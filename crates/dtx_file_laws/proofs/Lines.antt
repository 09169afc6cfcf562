-- The lines that are printed where all comes back.
use Rattle.std.proofs.Common.{◌≡◌, ℕ, ◌-◌, List, [], ◌∷◌, ◌++◌, length, refl, sym, ap, ◌∙◌, subst, arith}
use Rattle.std.specs.Prelude.{Option, Some, None, codes, decimal}
use Rattle.std.proofs.lemmas.Fmt.{decimal_digit}
use Rattle.std.proofs.lemmas.List.{append_assoc}
use Rattle.dtx_coder.proofs.CountsLemmas.{length-a53}
use Rattle.dtx_recipes.specs.DvbBack.{back_of}
use Rattle.dtx_packets.specs.Packets.{whole_packets}
use Rattle.dtx_words.specs.Line.{done_line, numbered}
use Rattle.dtx_words.specs.Printed.{printed}
use Rattle.dtx_words.specs.declared.rows.Command.TheVariants.{DvbRead, Mend, Receive}
use Rattle.dtx_file_laws.specs.Back.{all_back, dvb_line_back, line_back, EndsWith}

-- each label with its number behind it, and then a text
abbrev onto : List (List ℕ) → List ℕ → List ℕ → List ℕ
onto [] numbers text = text
onto (label ∷ labels) [] text = text
onto (label ∷ labels) (number ∷ numbers) text = label ++ (decimal number ++ onto labels numbers text)

numbered-append : (labels : List (List ℕ)) (numbers text : List ℕ)
    → numbered labels numbers ++ text ≡ onto labels numbers text
numbered-append [] numbers text = refl
numbered-append (label ∷ labels) [] text = refl
numbered-append (label ∷ labels) (number ∷ numbers) text =
    append_assoc label (decimal number ++ numbered labels numbers) text ∙ ap (λ rest. label ++ rest)
    (rw (append_assoc (decimal number) (numbered labels numbers) text, numbered-append labels numbers text))

abbrev labels : List (List ℕ)
labels = codes "segments " ∷ codes " runs " ∷ codes " packets " ∷ codes " fixed " ∷ codes " flagged " ∷ codes " loose "
    ∷ []

abbrev dvb_labels : List (List ℕ)
dvb_labels = codes "blocks " ∷ codes " packets " ∷ codes " fixed " ∷ codes " flagged " ∷ codes " loose " ∷ []

spelled : (s p f : ℕ) → onto labels (s ∷ 1 ∷ p ∷ f ∷ 0 ∷ 0 ∷ []) (codes "\n")
    ≡ codes "segments " ++ (decimal s ++ (codes " runs 1 packets " ++ (decimal p ++ (codes " fixed " ++ (decimal f
    ++ codes " flagged 0 loose 0\n")))))
spelled s p f = grind (arith, decimal_digit)

dvb_spelled : (b p f : ℕ) → onto dvb_labels (b ∷ p ∷ f ∷ 0 ∷ 0 ∷ []) (codes "\n")
    ≡ codes "blocks " ++ (decimal b ++ (codes " packets " ++ (decimal p ++ (codes " fixed " ++ (decimal f
    ++ codes " flagged 0 loose 0\n")))))
dvb_spelled b p f = grind (arith, decimal_digit)

-- ---- of what comes back

pub received_line : (names packets : List (List ℕ)) (fixed : ℕ)
    → done_line (Some Receive) (all_back names packets fixed).outcome ≡ line_back (length packets) fixed
received_line names packets fixed = rw (numbered-append, spelled, length-a53)

pub mended_line : (names packets : List (List ℕ)) (fixed : ℕ)
    → done_line (Some Mend) (all_back names packets fixed).outcome ≡ line_back (length packets) fixed
mended_line = received_line

pub read_line : (names : List (List ℕ)) (stream : List ℕ) (fixed : ℕ)
    → done_line (Some DvbRead) (back_of names stream fixed).outcome ≡ dvb_line_back (whole_packets stream) fixed
read_line names stream fixed = simp (numbered-append, dvb_spelled)

-- ---- what was printed

pub ends_with : (old new : Option (List ℕ)) (text : List ℕ) → new ≡ printed text old → EndsWith new text
ends_with None new text is = subst (λ (o : Option (List ℕ)). EndsWith o text) (sym is) tt
ends_with (Some before) new text is = subst (λ (o : Option (List ℕ)). EndsWith o text) (sym is) (before, refl)
