-- What an event that fits says of its parts.
use Rattle.std.proofs.Common.{◌≡◌, ℕ, true, subst}
use Rattle.std.proofs.lemmas.Bool.{and_parts}
use Rattle.tw_event.specs.declared.event.Body.TheVariants.{Update}
use Rattle.tw_event.specs.declared.event.Event.{Event}
use Rattle.tw_event.specs.declared.event.PathNo.{PathNo}
use Rattle.tw_model.specs.Net.{IsPath, Net, is_permitted}
use Rattle.tw_model.proofs.Paths.{permitted_is_path}
use Rattle.tw_model.proofs.Suits.{body_suits-fits}
use Rattle.tw_model.specs.State.{has_peer}
use Rattle.tw_model.specs.Effect.{body_suits, fits}

-- the path of an update that fits is one of the instance
pub IsPath-fits : (net : Net) (v : ℕ) (e : Event) (q : PathNo) (n : ℕ) → fits net v e ≡ true → e.body ≡ Update q n → IsPath net q
IsPath-fits net v e q n h is =
    let b = subst (λ body. body_suits net v e body ≡ true) is (body_suits-fits net v e h) in
    let p = and_parts (has_peer net v e.src) (is_permitted net e.src q) b in permitted_is_path net e.src q p.1
