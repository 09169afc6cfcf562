use Rattle.std.proofs.Common.{◌≡◌, ℕ, ◌+◌, Bool, true, false, cond, filter, length, get_or, sym, ap, ◌∙◌, subst, arith}
use Rattle.std.specs.List.{range_with_len}
use Rattle.dtx_rounds.specs.FieldRound.{words_known}
use Rattle.dtx_rounds.proofs.RangeSteps.{count_next}
use Rattle.dtx_rounds.proofs.field.Field.known_words.Goals.{then-self-k, else-self-k}
use Rattle.dtx_rounds.proofs.field.Field.known_words.Goals as goal

further : (p : ℕ → Bool) (k n m : ℕ) (b : Bool) → n ≡ length (filter p (range_with_len 0 k)) → p k ≡ b
    → m ≡ n + cond b 1 0 → m ≡ length (filter p (range_with_len 0 (k + 1)))
further p k n m b e f g =
    g ∙ ap (λ x. x + cond b 1 0) e
    ∙ sym (count_next p k ∙ ap (λ t. length (filter p (range_with_len 0 k)) + cond t 1 0) f)

pub loop-k-preserved : goal.loop-k-preserved
loop-k-preserved c = record {
  known = elim c.if-self-k.branch [
    | then-self-k w ↦ further _ c.loop-k.k c.loop-k.count _ true c.loop-k.invariant.known w.if-self-k.true w.count-is
    | else-self-k w ↦
        further _ c.loop-k.k c.loop-k.count _ false c.loop-k.invariant.known w.if-self-k.false
        (w.count-is ∙ omega arith)
  ];
  few = elim c.if-self-k.branch [ then-self-k w ↦ omega arith | else-self-k w ↦ omega arith ];
}

pub returns-clause-known : goal.returns-clause-known
unfolding words_known
returns-clause-known c =
    (let all : c.loop-k.k ≡ 312 = omega arith in
    subst (λ n. c.loop-k.count ≡ length (filter (λ k. get_or c.args.self.now.words k false) (range_with_len 0 n))) all
    c.loop-k.invariant.known)
