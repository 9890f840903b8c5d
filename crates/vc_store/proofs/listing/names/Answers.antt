use Rattle.vc_store.proofs.NamesLemmas.{stored_names-sorted, stored_names-exact, objects-file, file-objects}
use Rattle.vc_store.proofs.listing.names.Goals as goal

pub returns-clause-lists : goal.returns-clause-lists
returns-clause-lists g c = record {
  names = c.in_ok-names.ensures.names;
  sorted = λ honest. rw (c.in_ok-names.ensures.names honest) (stored_names-sorted _);
  exact = λ honest id. rw (c.in_ok-names.ensures.names honest) (stored_names-exact _ id);
  objects = λ honest id. rw (c.in_ok-names.ensures.names honest) (λ member. objects-file _ id ((stored_names-exact _ id).0 member));
  complete = λ honest id. rw (c.in_ok-names.ensures.names honest) (λ some. (stored_names-exact _ id).1 (file-objects _ id some));
}
