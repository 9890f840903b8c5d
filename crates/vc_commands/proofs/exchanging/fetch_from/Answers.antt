use Rattle.vc_commands.proofs.exchanging.fetch_from.Goals as goal

pub returns-clause-fetched : goal.returns-clause-fetched
returns-clause-fetched g c = (c.fetch_into-files.result.1, c.tell_fetch.ensures, λ f r can sound. rw (c.close.ensures.back.here, c.settle-settled.ensures.files) (c.fetch_into-files.ensures.alone f r can sound))
