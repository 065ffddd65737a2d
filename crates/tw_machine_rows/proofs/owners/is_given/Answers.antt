use Rattle.std.proofs.Common.{◌<◌, ◌≡◌, false, arith, subst, sym}
use Rattle.std.specs.List.{AllByRecursion}
use Rattle.tw_exchange.specs.Board.{IsListed, all_mail, is_to, workers}
use Rattle.tw_machine_rows.proofs.owners.is_given.Goals as goal

pub set_owner-requires : goal.set_owner-requires
set_owner-requires c =
    let listed = subst (IsListed 1) (sym c.requires) (omega arith) in
    let within = subst (λ x. 0 < workers x) (sym c.requires) (omega arith) in
    let no_mail = subst (λ x. AllByRecursion (λ m. is_to 1 m ≡ false) (all_mail x)) (sym c.requires) tt in
    -- an exchange fits into memory
    (omega arith, (listed, (within, no_mail)))
