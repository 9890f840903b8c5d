use Rattle.vc_commands.proofs.exchanging.push_to.Goals as goal

pub returns-clause-pushed : goal.returns-clause-pushed
returns-clause-pushed g c = (c.push_from-files.result.1, c.tell_push.ensures, λ f z r can sound. rw (c.close.ensures.back.here, c.settle-settled.ensures.files) (c.push_from-files.ensures.alone f z r can sound))
