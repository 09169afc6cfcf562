-- The pages of a network's transmitters (the profile's own): each order tells one page, which lists some of them.
-- Orders stand here the latest first.
use Rattle.std.specs.Prelude.{ℕ, ◌≡◌, ◌≤◌, ◌==◌, ℤ, pos, Bool, false, not, Option, Some, None, option_and_then, is_some}
use Rattle.std.specs.Prelude.{if◌then◌else◌, List, [], ◌∷◌, find, true, option_map, map, replicate, set}
use Rattle.std.specs.List.{range_with_len, take_while, list_any, list_all, cons_option}
use Rattle.dtx_ops.specs.Paging.{page_of, pages_of}
use Rattle.dtx_ops.specs.declared.fields.Entry.{Entry}
use Rattle.dtx_ops.specs.declared.fields.Ops.{Ops}
use Rattle.dtx_exciter.specs.Order.{Order, counting_order, placed}
use Rattle.dtx_exciter.specs.declared.pages.PageEntry.{PageEntry}
use Rattle.dtx_exciter.specs.declared.pages.Pages.{Pages}

-- ---- one order

-- the page that an order tells, and how many there are
abbrev pub page : Order → ℕ
page order = page_of order.ops.paging

abbrev pub pages : Order → ℕ
pages order = pages_of order.ops.paging

-- the entry of an address
abbrev pub entry_of : ℕ → Ops → Option Entry
entry_of address ops = find (λ e. e.address == address) ops.offsets.items

-- whether the address is listed
abbrev pub lists : ℕ → Ops → Bool
lists address ops = is_some (entry_of address ops)

-- ---- orders of one number of pages

-- the orders from the latest one back, as far as all have its number of pages
abbrev pub of_one_cycle : List Order → List Order
of_one_cycle [] = []
of_one_cycle (order ∷ older) = order ∷ take_while (λ o. pages o == pages order) older

-- whether an order tells this page
abbrev pub is_told : List Order → ℕ → Bool
is_told cycle k = list_any (λ o. page o == k) cycle

-- whether each page is told
abbrev pub all_pages_told : List Order → Bool
all_pages_told [] = false
all_pages_told (order ∷ older) = list_all (is_told (order ∷ older)) (range_with_len 0 (pages order))

-- Page k of n was told for the group that begins at i. An order up to that group tells it, and each one from there on
-- has this number of pages.
pub record WasTold (said : List (Option Ops)) (i n k : ℕ) : Type 0 where
  pub group : ℕ
  pub ops : Ops
  pub until : group ≤ i
  pub orders : counting_order said group ≡ Some ops
  pub tells : page_of ops.paging ≡ k
  pub since : (g : ℕ) (other : Ops) → group ≤ g → g ≤ i → counting_order said g ≡ Some other
      → pages_of other.paging ≡ n

-- an order, unless a later one tells its page
abbrev pub unless_told_again : List Order → Option Order → Option Order
unless_told_again later None = None
unless_told_again later (Some order) = if is_told later (page order) then None else Some order

-- the latest order that lists an address, unless a later one tells its page
unfoldable pub listing : ℕ → List Order → Option Order
listing address cycle =
    unless_told_again (take_while (λ o. not (lists address o.ops)) cycle) (find (λ o. lists address o.ops) cycle)

-- ---- what is in force

-- the entry in force of an address
unfoldable pub entry_in_force : ℕ → List Order → Option Entry
entry_in_force address orders =
    option_and_then (λ o. entry_of address o.ops) (listing address (of_one_cycle orders))

-- its offset
abbrev pub offset_of : Option Entry → ℤ
offset_of None = pos 0
offset_of (Some e) = e.offset

-- the entry of an address in an order, and its page
abbrev pub held_of : ℕ → Order → Option PageEntry
held_of address order =
    option_map (λ e. record { page = page order; entry = e }) (entry_of address order.ops)

-- what is kept of orders with one number of pages: which pages they tell, and the address's entry in force
pub record HoldsCycle (address : ℕ) (cycle : List Order) (p : Pages) : Type 0 where
  pub told : p.told ≡ map (is_told cycle) (range_with_len 0 30)
  pub held : p.held ≡ option_and_then (held_of address) (listing address cycle)

-- what stays at an order of n pages: nothing if there was another number of pages before
abbrev pub begun : ℕ → Pages → Pages
begun n p = if p.count == n then p else record { count = n; told = replicate 30 false; held = None }

-- the entry in force after an order of page k, which may have an entry of its own: an older one stays if its page is
-- another
abbrev pub held_after : ℕ → Option Entry → Option PageEntry → Option PageEntry
held_after k (Some e) before = Some (record { page = k; entry = e })
held_after k None None = None
held_after k None (Some h) = if k == h.page then None else Some h

-- what is kept after one more order
abbrev pub with_order : ℕ → Ops → Pages → Pages
with_order address ops p = record {
  count = pages_of ops.paging;
  told = set (begun (pages_of ops.paging) p).told (page_of ops.paging) true;
  held = held_after (page_of ops.paging) (entry_of address ops) (begun (pages_of ops.paging) p).held;
}

-- the number of pages of the latest order
abbrev pub pages_in : List Order → ℕ
pages_in [] = 0
pages_in (order ∷ older) = pages order

-- what is kept of all orders, the latest first
pub record HoldsPages (address : ℕ) (orders : List Order) (p : Pages) : Type 0 where
  pub count : p.count ≡ pages_in orders
  pub few : pages_in orders ≤ 30
  pub cycle : HoldsCycle address (of_one_cycle orders) p

-- what is kept after one more group, which may have an order
abbrev pub HoldsMore : ℕ → Option Ops → Pages → Pages → Type 0
HoldsMore address own before now =
    (orders : List Order) (i : ℕ) → HoldsPages address orders before
    → HoldsPages address (cons_option (placed i own) orders) now
