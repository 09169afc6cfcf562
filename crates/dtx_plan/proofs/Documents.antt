-- What the bytes of a file read as.
use Rattle.std.proofs.Common.{◌≡◌, ℕ, ◌≤◌, List, length, Some, None, Ok, arith}
use Rattle.std.proofs.lemmas.Bool.{cases_Bool, le-ltb}
use Rattle.std.proofs.lemmas.Str.{IsUtf8-from_is_utf8, is_utf8-from_IsUtf8}
use Rattle.std.specs.Str.{IsUtf8}
use Rattle.toml.specs.Data.{Members}
use Rattle.toml.specs.Parse.{parse_document}
use Rattle.dtx_plan.specs.declared.key.PlanKey.TheVariants as key
use Rattle.dtx_plan.specs.declared.rule.PlanRule.TheVariants.{Text}
use Rattle.dtx_plan.specs.Rows.{refused}
use Rattle.dtx_plan.specs.Plan.{root_of}

pub root_of-read : (bytes : List ℕ) (root : Members) → length bytes ≤ 16777216 → IsUtf8 bytes
    → parse_document bytes ≡ Some root → root_of bytes ≡ Ok root
root_of-read bytes root small text read = grind (arith, le-ltb, is_utf8-from_IsUtf8)

pub root_of-refused : (bytes : List ℕ) → length bytes ≤ 16777216 → (IsUtf8 bytes → parse_document bytes ≡ None)
    → root_of bytes ≡ refused key.Whole 0 Text
root_of-refused bytes small unread = grind (arith, le-ltb, cases_Bool, IsUtf8-from_is_utf8)
