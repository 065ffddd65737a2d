-- The versions of the case text: the header and the words of each (own).
use Rattle.std.specs.Prelude.{ℕ, ◌==◌, List, [], ◌∷◌, if◌then◌else◌, Option, bytes_eq, codes}
use Rattle.std.specs.List.{find}
use Rattle.tw_text.specs.declared.keyword.Keyword.{Keyword}
use Rattle.tw_text.specs.declared.keyword.Keyword.TheVariants.{Nodes, Link, TwoWayLink, Path, Fail, Restore, Swap, Forbid, Allow, End}

-- the header of a version
abbrev pub header : ℕ → List ℕ
header version = if version == 1 then codes "spp 1" else codes "spp 2"

-- the version of which the line is the header
abbrev pub version_of : List ℕ → Option ℕ
version_of line = find (λ version. bytes_eq line (header version)) (1 ∷ 2 ∷ [])

-- the keywords of version 1
abbrev pub first_keywords : List Keyword
first_keywords = Nodes ∷ Link ∷ Path ∷ Fail ∷ Restore ∷ Swap ∷ End ∷ []

-- the keywords of version 2: a link has a delay for each direction, and paths are forbidden and allowed
abbrev pub second_keywords : List Keyword
second_keywords = Nodes ∷ TwoWayLink ∷ Path ∷ Fail ∷ Restore ∷ Swap ∷ Forbid ∷ Allow ∷ End ∷ []

-- the keywords of a version
abbrev pub keywords : ℕ → List Keyword
keywords version = if version == 1 then first_keywords else second_keywords
