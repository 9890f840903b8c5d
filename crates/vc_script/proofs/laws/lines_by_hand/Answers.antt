use Rattle.vc_script.proofs.ByHandLemmas.{events_by_hand, orders_by_hand, push_by_hand, refused_by_hand}
use Rattle.vc_script.proofs.laws.lines_by_hand.Goals as goal

pub returns-clause-orders : goal.returns-clause-orders
returns-clause-orders c = orders_by_hand

pub returns-clause-push : goal.returns-clause-push
returns-clause-push c = push_by_hand

pub returns-clause-events : goal.returns-clause-events
returns-clause-events c = events_by_hand

pub returns-clause-refused : goal.returns-clause-refused
returns-clause-refused c = refused_by_hand
