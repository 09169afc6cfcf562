use Rattle.std.proofs.Common.{◌≡◌, ◌++◌, Err, List, ℕ, subst, sym, ap, ◌∙◌}
use Rattle.dtx_outside.specs.Shelf.{IsGathered, IsPartWritten}
use Rattle.dtx_outside.proofs.WrittenLemmas.{gathered_of_rest, part_of_front, written_appended, written_more}
use Rattle.dtx_outside.proofs.Parts.{parts_joined}
use Rattle.dtx_outside.proofs.output.Output.write_on.Goals as goal

pub returns-in-Err-clause-written : goal.returns-in-Err-clause-written
returns-in-Err-clause-written g c =
    let before = g.S.Shelf.files c.args.shelf.now in
    let after = g.S.Shelf.files c.append.new.self in
    let name = c.args.name.now in
    let pages : List ℕ = c.split_at.result.0.now in
    let rest : List ℕ = c.split_at.result.1.now in
    let whole : pages ++ rest ≡ c.args.bytes.now =
    parts_joined _ c.args.bytes.now pages rest c.split_at.ensures.front c.split_at.ensures.back in
    λ start given written.
    subst (λ bytes. IsPartWritten start name (given ++ bytes) after) whole
    (part_of_front start after name given pages rest
    (written_appended start before name given pages (Err c.in-Err.no) after written
    c.in-Err.ensures.files))

pub returns-in-Ok-clause-written : goal.returns-in-Ok-clause-written
returns-in-Ok-clause-written g c =
    let before = g.S.Shelf.files c.args.shelf.now in
    let after = g.S.Shelf.files c.append.new.self in
    let name = c.args.name.now in
    let pages : List ℕ = c.split_at.result.0.now in
    let rest : List ℕ = c.split_at.result.1.now in
    let whole : pages ++ rest ≡ c.args.bytes.now =
    parts_joined _ c.args.bytes.now pages rest c.split_at.ensures.front c.split_at.ensures.back in
    let kept : c.gather-in-Ok.new.self ≡ rest = c.gather-in-Ok.ensures ∙ ap (λ z. z ++ rest) c.requires in
    λ start given written.
    subst (λ bytes. IsGathered start name (given ++ bytes) c.gather-in-Ok.new.self after) whole
    (subst (λ z. IsGathered start name (given ++ (pages ++ rest)) z after) (sym kept)
    (gathered_of_rest start after name given pages rest
    (written_more start before after name given pages written c.in-Ok.ensures.files)))
