use Rattle.vc_commands.proofs.remote.exchange.Goals as goal

pub returns-in-Fetch : goal.returns-in-Fetch
returns-in-Fetch g c = rw c.in-Fetch.is (c.fetch.result, c.as_done-in-Fetch.ensures, c.fetch.ensures)

pub returns-in-Push : goal.returns-in-Push
returns-in-Push g c = rw c.in-Push.is c.push.ensures
