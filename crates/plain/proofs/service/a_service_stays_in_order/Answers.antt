use Rattle.plain.proofs.Order.{a_service_stays_in_order, calls_keep_what_is_paid}
use Rattle.plain.proofs.service.a_service_stays_in_order.Goals as goal

pub returns : goal.returns
returns c = record { order = a_service_stays_in_order; spare = calls_keep_what_is_paid }
