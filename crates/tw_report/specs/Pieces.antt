-- The line of an event in pieces, as they stand one after the other (own).
use Rattle.std.specs.Prelude.{ℕ, List, [], ◌∷◌, ◌++◌, codes}
use Rattle.std.specs.Fmt.{decimal}
use Rattle.tw_event.specs.declared.event.Event.{Event}
use Rattle.tw_report.specs.Words.{path_text, spaced_number}

-- with its time and its receiver
unfoldable pub head_text : Event → List ℕ
head_text e = codes "event " ++ (decimal e.time ++ spaced_number e.dst)

-- what two numbers tell, with the space before its name: a failure, a repair, a path forbidden or allowed
unfoldable pub pair_text : List ℕ → ℕ → ℕ → List ℕ
pair_text name a b = name ++ (spaced_number a ++ (spaced_number b ++ 10 ∷ []))

-- an exchange of ranks
unfoldable pub swap_text : ℕ → ℕ → ℕ → List ℕ
swap_text seq i j = codes " swap" ++ (spaced_number seq ++ (spaced_number i ++ (spaced_number j ++ 10 ∷ [])))

-- an update
unfoldable pub update_text : Event → ℕ → List ℕ → List ℕ
update_text e session nodes =
    codes " update" ++ (spaced_number e.src ++ (spaced_number e.seq ++ (spaced_number session ++ (32 ∷ path_text nodes ++ 10 ∷ []))))
