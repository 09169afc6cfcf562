use Rattle.std.proofs.Common.{◌≡◌, ◌∙◌, ◌*◌, ◌≤◌, ◌++◌, ℕ, List, length, sym, ap, ap₂, arith}
use Rattle.std.proofs.lemmas.Bool.{true≢false}
use Rattle.std.proofs.lemmas.List.{length-append}
use Rattle.dtx_laws.specs.Words.{correction}
use Rattle.dtx_outer.specs.Inner.{word_at}
use Rattle.dtx_rounds.specs.Found.{bytes_of}
use Rattle.dtx_rounds.proofs.KnownLemmas.{known_there, known_absent}
use Rattle.dtx_rounds.proofs.words.code_of.Goals as goal

room : (own behind : List ℕ) (segments : ℕ) → length own ≡ 64584 → length behind ≡ 64584 → segments ≤ 624
    → 207 * segments ≤ length (own ++ behind)
room own behind segments e f l = omega (arith, e, f, l, length-append own behind)

pub returns-then-is_whole : goal.returns-then-is_whole
returns-then-is_whole c =
    c.corrected.ensures ∙ ap (correction 207 187) (c.gather_word.ensures
    ∙ ap₂ (λ (xs ys : List ℕ). word_at 207 52 4 (xs ++ ys) c.args.k) c.bytes-bytes.ensures.bytes
    c.bytes-behind.ensures.bytes)
    ∙ sym (known_there (bytes_of c.args.field.now ++ bytes_of c.args.next.now) (207 * c.args.segments) c.args.k
    (room (bytes_of c.args.field.now) (bytes_of c.args.next.now) c.args.segments
    (ap length (sym c.bytes-bytes.ensures.bytes) ∙ c.bytes-bytes.ensures.long)
    (ap length (sym c.bytes-behind.ensures.bytes) ∙ c.bytes-behind.ensures.long) c.requires.most)
    (c.is_whole.ensures.0 c.if-is_whole.true))

pub returns-else-is_whole : goal.returns-else-is_whole
returns-else-is_whole c =
    sym (known_absent (bytes_of c.args.field.now ++ bytes_of c.args.next.now) (207 * c.args.segments) c.args.k
    (room (bytes_of c.args.field.now) (bytes_of c.args.next.now) c.args.segments
    (ap length (sym c.bytes-bytes.ensures.bytes) ∙ c.bytes-bytes.ensures.long)
    (ap length (sym c.bytes-behind.ensures.bytes) ∙ c.bytes-behind.ensures.long) c.requires.most)
    (λ h. true≢false (sym (c.is_whole.ensures.1 h) ∙ c.if-is_whole.false)))
