use Rattle.std.proofs.Common.{◌≡◌, ℕ, ◌+◌, ◌*◌, ◌<◌, ◌++◌, List, length, take, sym, ap₂, ◌∙◌, subst, arith}
use Rattle.std.specs.List.{flat_map}
use Rattle.dtx_rounds.specs.Found.{AreFound, bytes_of, bytes_there, new_code, only_code, whole_segments}
use Rattle.dtx_rounds.specs.Known.{known_word}
use Rattle.dtx_rounds.specs.declared.field.Field.{Field}
use Rattle.dtx_rounds.proofs.FoundWords.{found_none}
use Rattle.dtx_rounds.proofs.LaidWords.{found_next, found_passed, sought_none}
use Rattle.dtx_rounds.proofs.words.find_words.Goals as goal
use Rattle.dtx_rounds.proofs.words.find_words.Goals.{then-not-field-k, else-not-field-k}

pub loop-k-init : goal.loop-k-init
loop-k-init c =
    found_none _ c.args.field.now c.args.next.now
    (sought_none (bytes_there c.args.field.now c.args.next.now) c.args.field.now.words)

pub loop-k-preserved : goal.loop-k-preserved
unfolding bytes_there
loop-k-preserved c =
    elim c.if-not-field-k.branch [
      | then-not-field-k w ↦ moved w.find_word.new.field w.find_word.new.next w.field-is w.next-is
          (found_next there k c.args.field.now c.args.next.now c.loop-k.field c.loop-k.next w.find_word.new.field
          w.find_word.new.next room c.loop-k.invariant w.if-not-field-k.true
          (subst (λ bytes. AreFound (only_code k (known_word bytes k)) c.loop-k.field c.loop-k.next
          w.find_word.new.field w.find_word.new.next) same w.find_word.ensures))
      | else-not-field-k w ↦ moved c.loop-k.field c.loop-k.next w.field-is w.next-is
          (found_passed there k c.args.field.now c.args.next.now c.loop-k.field c.loop-k.next room
          c.loop-k.invariant w.if-not-field-k.false)
    ]
  where
    k : ℕ
    k = c.loop-k.k

    there : List ℕ
    there = bytes_there c.args.field.now c.args.next.now

    room : k < length c.args.field.now.words
    room = omega arith

    same : take (207 * (c.in_groups.result + c.in_groups-2.result)) (bytes_of c.loop-k.field ++ bytes_of c.loop-k.next)
        ≡ there
    same =
        ap₂ (λ m n. take (207 * (m + n)) (bytes_of c.loop-k.field ++ bytes_of c.loop-k.next)) c.in_groups.ensures.is
        c.in_groups-2.ensures.is
        ∙ ap₂ (λ v w. take (207 * (whole_segments c.args.field.now.count + whole_segments c.args.next.now.count))
        (flat_map (λ (group : List ℕ). group) v.items ++ flat_map (λ (group : List ℕ). group) w.items))
        c.loop-k.invariant.rest.bytes c.loop-k.invariant.next_rest.bytes

    moved : (x y : Field) → c.if-not-field-k.field ≡ x → c.if-not-field-k.next ≡ y
        → AreFound (new_code there (take (k + 1) c.args.field.now.words)) c.args.field.now c.args.next.now x y
        → AreFound (new_code there (take (k + 1) c.args.field.now.words)) c.args.field.now c.args.next.now
        c.if-not-field-k.field c.if-not-field-k.next
    moved x y e f h =
        subst (λ z. AreFound (new_code there (take (k + 1) c.args.field.now.words)) c.args.field.now c.args.next.now
        c.if-not-field-k.field z) (sym f)
        (subst (λ z. AreFound (new_code there (take (k + 1) c.args.field.now.words)) c.args.field.now c.args.next.now
        z y) (sym e) h)
