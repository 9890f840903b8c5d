use Rattle.vc_push_items.proofs.PushLemmas.{item_from, refused_from}
use Rattle.vc_push_items.proofs.push_items.item_of.Goals as goal

pub returns-in-Branch-clause-item : goal.returns-in-Branch-clause-item
returns-in-Branch-clause-item g c = λ honest. item_from _ _ _ _ _ c.item_words.ensures c.in-Branch.is (c.set_branch.ensures.item honest)

pub returns-in-Branch-clause-refused : goal.returns-in-Branch-clause-refused
returns-in-Branch-clause-refused g c = λ honest. refused_from _ _ _ _ _ c.item_words.ensures c.in-Branch.is (c.set_branch.ensures.refused honest)

pub returns-in-Set-clause-item : goal.returns-in-Set-clause-item
returns-in-Set-clause-item g c = λ honest. item_from _ _ _ _ _ c.item_words.ensures c.in-Set.is (c.set_ref.ensures.item honest)

pub returns-in-Set-clause-refused : goal.returns-in-Set-clause-refused
returns-in-Set-clause-refused g c = λ honest. refused_from _ _ _ _ _ c.item_words.ensures c.in-Set.is (c.set_ref.ensures.refused honest)

pub returns-in-Delete-clause-item : goal.returns-in-Delete-clause-item
returns-in-Delete-clause-item g c = λ honest. item_from _ _ _ _ _ c.item_words.ensures c.in-Delete.is c.delete_ref.ensures.item

pub returns-in-Delete-clause-refused : goal.returns-in-Delete-clause-refused
returns-in-Delete-clause-refused g c = λ honest. refused_from _ _ _ _ _ c.item_words.ensures c.in-Delete.is c.delete_ref.ensures.refused
