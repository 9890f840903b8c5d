use Rattle.vc_world.proofs.Tracked.{git_can_be_tracked}
use Rattle.vc_world.proofs.laws.a_branch_that_may_be_pushed_can_be_tracked.Goals as goal

pub returns : goal.returns
returns c = git_can_be_tracked
