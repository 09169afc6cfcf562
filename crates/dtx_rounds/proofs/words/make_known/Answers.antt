use Rattle.std.proofs.Common.{◌≡◌, ℕ, ◌+◌, ◌*◌, ◌++◌, Option, None, List, get_or, refl}
use Rattle.std.proofs.Common.{not, ◌||◌, ap, ap₂, ◌∙◌, arith}
use Rattle.std.specs.Vec.{with_items}
use Rattle.dtx_outer.specs.Inner.{codeword_byte_place}
use Rattle.dtx_rounds.proofs.KnownLemmas.{complete_by}
use Rattle.dtx_rounds.proofs.LaidWords.{found_one, items_written}
use Rattle.dtx_rounds.proofs.words.make_known.Goals as goal

pub returns : goal.returns
returns c =
    found_one c.args.k c.args.word.now c.args.field.now c.args.next.now _ _ c.requires (omega arith)
    (λ j l. both (codeword_byte_place 52 4 (207 * c.args.k + j)) ∙ c.lay_word.ensures.laid j l)
    (λ n ne. both n ∙ c.lay_word.ensures.others n ne
    ∙ ap₂ (λ (xs ys : List (Option ℕ)). get_or (xs ++ ys) n None) c.deref_mut.ensures.value
    c.deref_mut-2.ensures.value) refl refl
    (record { count = refl; heard = refl; decided = refl; bytes = refl; cost = refl; moved = refl }) refl
    (ap (λ b. c.args.next.now.knows_more || not b) (complete_by c.is_whole.result 64584 c.args.k c.is_whole.ensures))
    (record { count = refl; heard = refl; decided = refl; bytes = refl; cost = refl; moved = refl })
  where
    known : (with_items c.args.field.now.known c.lay_word.new.known).items ≡ c.lay_word.new.known
    known =
        items_written c.args.field.now.known c.lay_word.new.known
        (omega (arith, c.lay_word.auto.known, c.deref_mut.ensures.len))

    next : (with_items c.args.next.now.known c.lay_word.new.next).items ≡ c.lay_word.new.next
    next =
        items_written c.args.next.now.known c.lay_word.new.next
        (omega (arith, c.lay_word.auto.next, c.deref_mut-2.ensures.len))

    both : (n : ℕ) → get_or ((with_items c.args.field.now.known c.lay_word.new.known).items
        ++ (with_items c.args.next.now.known c.lay_word.new.next).items) n None
        ≡ get_or (c.lay_word.new.known ++ c.lay_word.new.next) n None
    both n = ap₂ (λ (xs ys : List (Option ℕ)). get_or (xs ++ ys) n None) known next
