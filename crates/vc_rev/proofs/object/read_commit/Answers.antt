use Rattle.std.proofs.Common.{◌≡◌, option_map}
use Rattle.vc_object.specs.CommitView.{commit_view}
use Rattle.vc_object.specs.Decoding.{stored_object}
use Rattle.vc_rev.specs.Meaning.{commit_in}
use Rattle.vc_rev.proofs.ObjectLemmas.{commit_read, at_object}
use Rattle.vc_rev.proofs.object.read_commit.Goals as goal

pub returns : goal.returns
returns c =
    at_object (λ kind body. option_map commit_view c.commit_of.result ≡ commit_in (stored_object kind body)) c.object.result.kind c.args.object.now.kind c.object.result.body.now c.args.object.now.body.items c.object.ensures.kind c.object.ensures.body
    (commit_read c.object.result.kind c.object.result.body.now c.commit_of.result c.commit_of.ensures.found c.commit_of.ensures.read)
