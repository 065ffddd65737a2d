use Rattle.tw_machine_rows.proofs.Sittings.{begun}
use Rattle.tw_machine_rows.proofs.table.leave_no_mail.Goals as goal

pub hand_each_other_mail-requires : goal.hand_each_other_mail-requires
hand_each_other_mail-requires g c =
    let one = c.new.ensures in
    let two = c.new-2.ensures in
    begun c.args.case.now c.args.shards.now c.new.result c.new-2.result c.requires.count c.requires.each
    record { mail = one.mail; next = one.next; out = one.out }
    record { mail = two.mail; next = two.next; out = two.out }
