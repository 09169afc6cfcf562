-- An acquirer as contracts see it, and which symbols it stands for.
use Rattle.std.specs.Prelude.{ℕ, ℤ, ◌≡◌, ◌+◌, ◌*◌, ◌<◌, ◌≤◌, Bool, true, false, if◌then◌else◌, List, [], ◌++◌}
use Rattle.std.specs.Prelude.{length, drop}
use Rattle.dtx_acquire.specs.Agreement.{agrees}
use Rattle.dtx_acquire.specs.Acquired.{Field, cost_of, fields_where, path_cost, restored_of, runs_of, segments_from}
use Rattle.dtx_acquire.specs.Acquired.{settled_fields}

-- An acquirer: its scale, and the symbols that it holds. `on` says whether a sync stands in front of them, and `begins`
-- whether a run would begin with it. `given` is what it gave last, `heard` the same segments as they were received, and
-- the counts are those of everything given.
pub record Holding : Type 0 where
  pub scale : ℕ
  pub held : List ℤ
  pub on : Bool
  pub begins : Bool
  pub given : List (List ℤ)
  pub heard : List (List ℤ)
  pub symbols : ℕ
  pub runs : ℕ
  pub segments : ℕ
  pub cost : ℕ

-- What is true of an acquirer's fields. The first `gone` of the symbols that it holds are dropped before others are
-- taken. The first `count` segments of them were given last, and their least paths cost `cost`.
pub record IsFit (held : List ℤ) (gone : ℕ) (on : Bool) (symbols total scale count cost : ℕ) : Type 0 where
  pub room : 832 * total + length (drop gone held) ≤ symbols
  pub most : symbols ≤ 520832000000
  pub front : on ≡ true → agrees (drop gone held) 0 ≡ true
  pub few : length held ≤ 261248
  pub within : gone ≤ length held
  pub whole : 832 * count ≤ length held
  pub costs : cost ≡ path_cost scale (segments_from held 0 count)

-- these fields if they are wanted, and otherwise none
abbrev pub where_wanted : Bool → List Field → List Field
where_wanted wanted fields = if wanted then fields else []

-- `symbols` were given to the acquirer, and `done` are the settled fields that it gave. Whatever symbols follow, all
-- other fields come from those that are held and those that follow.
pub record Leaves (holding : Holding) (symbols : List ℤ) (done : List Field) : Type 0 where
  pub fields : (wanted : Bool → Bool) (more : List ℤ) → fields_where wanted true (symbols ++ more)
      ≡ where_wanted (wanted true) done ++ fields_where wanted holding.begins (holding.held ++ more)
  pub symbols_are : holding.symbols ≡ length symbols
  pub runs_are : holding.runs ≡ runs_of done
  pub segments_are : holding.segments ≡ length (restored_of holding.scale done)
  pub cost_is : holding.cost ≡ cost_of holding.scale done

-- The acquirer was given these symbols. It has given all fields that are settled, and holds less than one field and one
-- segment.
pub record StandsFor (holding : Holding) (symbols : List ℤ) : Type 0 where
  pub few : length holding.held < 261248
  pub leaves : Leaves holding symbols (settled_fields symbols)

-- Some first symbols were dropped. At each of their places a whole segment stood, and none of these places agreed.
pub record IsSought (old new : List ℤ) : Type 0 where
  pub count : ℕ
  pub within : count ≤ length old
  pub left : new ≡ drop count old
  pub none : (place : ℕ) → place < count → (place + 832 ≤ length old) × (agrees old place ≡ false)

-- the first `count` segments of a field in front of the symbols
abbrev pub field_of : ℕ → Bool → List ℤ → Field
field_of count begins symbols = record { begins = begins; segments = segments_from symbols 0 count }
