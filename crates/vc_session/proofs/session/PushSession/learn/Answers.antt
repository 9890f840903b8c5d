use Rattle.vc_session.proofs.session.PushSession.learn.Goals as goal

pub returns-in_ok-learn_all-in-Unpacked-clause-learnt : goal.returns-in_ok-learn_all-in-Unpacked-clause-learnt
returns-in_ok-learn_all-in-Unpacked-clause-learnt g c = λ honest agrees.
    rw (← c.self.view_is, c.in-Unpacked.is) ((rw c.deref.ensures.value at c.in_ok-learn_all-in-Unpacked.ensures.learnt) honest agrees, c.clear.ensures.items)
