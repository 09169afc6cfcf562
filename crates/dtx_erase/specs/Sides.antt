-- What a mending receiver keeps, and the segments that it stands for.
use Rattle.std.specs.Prelude.{ℕ, ℤ, ◌≡◌, ◌+◌, ◌-◌, ◌*◌, ◌<◌, ◌%◌, List, [], ◌++◌, Bool, true, length, take, drop, map}
use Rattle.std.specs.Prelude.{replicate, slice_index, slice_index_or}
use Rattle.std.specs.List.{range_with_len}
use Rattle.dtx_laws.specs.Branches.{Branching, HasWidths, gathering, leaving_all, after_all}
use Rattle.dtx_outer.specs.Inner.{word_at}
use Rattle.dtx_receiver.specs.declared.batch.Received.{Received}
use Rattle.dtx_receiver.specs.Packets.{received_by}
use Rattle.dtx_receiver.specs.Bytes.{groups_of, bytes_in}
use Rattle.dtx_receiver.specs.Receiver.{AreLevels, Grouping, Kept, Stands}
use Rattle.dtx_erase.specs.Marks.{shown_run, is_set}
use Rattle.dtx_erase.specs.Mended.{mending}

-- What is kept of one side of a run: of its bytes, or of its marks. `begun` has the last 156 bytes that the
-- de-interleaver gave, which begin a word. `gathered` has what it gave last, behind the bytes that began the first
-- word.
pub record Side : Type 0 where
  pub groups : Grouping
  pub branches : Branching
  pub begun : List ℕ
  pub gathered : List ℕ

-- word p of those that were gathered
abbrev pub word_of : List ℕ → ℕ → List ℕ
word_of gathered p = take 207 (drop (207 * p) gathered)

-- The de-interleaver holds what the bytes y of a run leave, which are those of `groups` groups, 828 each. `begun` has
-- the last 156 bytes that it gave, which begin the next word.
pub record Gathers (held : Branching) (begun : List ℕ) (groups : ℕ) (y : List ℕ) : Type 0 where
  pub start : Branching
  pub widths : HasWidths 52 (gathering 52 4) start
  pub aligned : start.next ≡ 0
  pub given : length y ≡ 828 * groups
  pub branches : held ≡ after_all 52 start y
  pub rest : 0 < groups → begun ≡ drop (828 * groups - 156) (leaving_all 52 start y)

-- what is kept is what the segments of a run leave, and no bytes of its groups are held
pub record Holds (kept : Side) (run : List (List ℤ)) : Type 0 where
  pub levels : AreLevels kept.groups.levels kept.groups.precoder_bits run
  pub none : kept.groups.held ≡ []
  pub gathers : Gathers kept.branches kept.begun (groups_of run) (bytes_in run)

-- The gathered words are those that the bytes y of a run complete by `groups` groups, which are behind `before` others.
abbrev pub AreWords : List ℕ → ℕ → ℕ → List ℕ → Type 0
AreWords gathered before groups y =
    (k p : ℕ) → p < 4 * groups → k + 52 ≡ 4 * before + p → word_of gathered p ≡ word_at 207 52 4 y k

-- what is kept is that of a longer run, which has `groups` whole groups more, and the words of these are gathered
pub record IsFurther (new : Side) (groups : ℕ) (run longer : List (List ℤ)) : Type 0 where
  pub holds : Holds new longer
  pub more : List ℕ
  pub bytes : bytes_in longer ≡ bytes_in run ++ more
  pub count : groups_of longer ≡ groups_of run + groups
  pub words : AreWords new.gathered (groups_of run) groups (bytes_in longer)

-- the last `groups` groups of bytes that the branches took were zeros
pub record HaveCome (groups : ℕ) (branches : Branching) : Type 0 where
  pub before : Branching
  pub widths : HasWidths 52 (gathering 52 4) before
  pub come : branches ≡ after_all 52 before (replicate (828 * groups) 0)

-- the branches hold zeros alone
abbrev pub AreClear : Branching → Type 0
AreClear v = (i j : ℕ) → i < 52 → slice_index (slice_index_or v.lists i []) j ≡ 0

-- no mark is anywhere in what is kept
pub record IsQuiet (side : Side) : Type 0 where
  pub levels : side.groups.levels ≡ replicate 3312 0
  pub precoder_bits : side.groups.precoder_bits ≡ replicate 12 0
  pub held : side.groups.held ≡ []
  pub below : side.branches.next < 52
  pub branches : AreClear side.branches
  pub begun : side.begun ≡ replicate 156 0

-- What is known of the marks' side. The last `groups` groups of bytes were zeros. Where `quiet` is true, no mark is in
-- it.
pub record AreKnown (side : Side) (groups : ℕ) (quiet : Bool) : Type 0 where
  pub held : side.groups.held ≡ []
  pub come : HaveCome groups side.branches
  pub none : quiet ≡ true → IsQuiet side

-- What a decoder keeps: both sides of a run, how many groups more give no packet, and the next packet's place among the
-- 312 of a field.
pub record Decoding : Type 0 where
  pub bytes : Side
  pub marks : Side
  pub waits : ℕ
  pub place : ℕ

pub record Decodes (kept : Decoding) (run : List (List ℤ)) : Type 0 where
  pub bytes : Holds kept.bytes run
  pub marks : Holds kept.marks (shown_run run)
  pub waits : kept.waits ≡ 13 - groups_of run
  pub place : kept.place ≡ (4 * groups_of run - 52) % 312

-- the packet of a word and its flags, unwhitened by the randomizer's bytes from place `from` on
abbrev pub mended_word : ℕ → List ℕ → List ℕ → Received
mended_word from word flags = received_by from word (mending 207 187 (map is_set flags) word)

-- The packet of gathered word p. The first 4 * waits gathered words give none.
unfoldable pub packet_of : Decoding → ℕ → Received
packet_of kept p =
    mended_word (187 * ((kept.place + (p - 4 * kept.waits)) % 312)) (word_of kept.bytes.gathered p)
    (word_of kept.marks.gathered p)

-- The packets of `groups` groups, whose words are gathered, were given. The first `waits` groups give none.
pub record AreGiven (kept new : Decoding) (groups : ℕ) (given : List Received) : Type 0 where
  pub bytes : new.bytes ≡ kept.bytes
  pub marks : new.marks ≡ kept.marks
  pub waits : new.waits ≡ kept.waits - groups
  pub place : new.place ≡ (kept.place + 4 * (groups - kept.waits)) % 312
  pub packets : given ≡ map (packet_of kept) (range_with_len (4 * kept.waits) (4 * (groups - kept.waits)))

-- what is kept is what these segments leave
abbrev pub Mends : Kept Decoding → List (List ℤ) → Type 0
Mends receiver segments = Stands Decodes receiver segments
