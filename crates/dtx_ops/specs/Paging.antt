-- The page of transmitters that an operations packet carries (the profile's own).
use Rattle.std.specs.Prelude.{ℕ, ◌+◌, ◌<◌, ◌≤◌, List, [], ◌∷◌, length}
use Rattle.dtx_ops.specs.declared.paging.Paging.{Paging}
use Rattle.dtx_ops.specs.declared.paging.Paging.TheVariants.{One, Of}

-- the page, counted from 0: the only page is page 0
abbrev pub page_of : Paging → ℕ
page_of One = 0
page_of (Of page pages) = page

-- the number of pages: the only page is one of one
abbrev pub pages_of : Paging → ℕ
pages_of One = 1
pages_of (Of page pages) = pages

-- the kind of a packet that carries the page: 1 for the only page, else 2
abbrev pub kind_of : Paging → ℕ
kind_of One = 1
kind_of (Of page pages) = 2

-- the bytes that name the page: the page and the number of pages, and none for the only page
abbrev pub paging_bytes : Paging → List ℕ
paging_bytes One = []
paging_bytes (Of page pages) = page ∷ pages ∷ []

-- the byte that has the count of entries: byte 18 for the only page, else byte 20
abbrev pub count_place : Paging → ℕ
count_place paging = 18 + length (paging_bytes paging)

-- how many entries a page has at most
abbrev pub most_of : Paging → ℕ
most_of One = 35
most_of (Of page pages) = 34

-- The page is below the number of pages, which is at most 30, and its entries are not too many.
pub record IsPaged (paging : Paging) (entries : ℕ) : Type 0 where
  pub page : page_of paging < pages_of paging
  pub pages : pages_of paging ≤ 30
  pub fits : entries ≤ most_of paging
