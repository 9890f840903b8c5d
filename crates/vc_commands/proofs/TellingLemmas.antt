-- For what is told of an exchange: a fault after it, and what ended it.
use Rattle.std.proofs.Common.{◌≡◌, ◌⊎◌, List, ℕ, Bool, Option, Ok, Err, IsErrAnd, inl, inr, subst, sym}
use Rattle.std.proofs.KnownBytes.{Keeps-refl}
use Rattle.std.specs.Prelude.{Result}
use Rattle.vc_cli.specs.Failure.{IsFault}
use Rattle.vc_cli.specs.declared.failure.Failure.{Failure}
use Rattle.vc_commands.specs.Exchanging.{TellsFetch, TellsPush}
use Rattle.vc_push.specs.declared.report.Report.{Report}
use Rattle.vc_remote.specs.declared.remote_fault.RemoteFault.{RemoteFault}
use Rattle.vc_world.specs.declared.ending.ExchangeEnd.{ExchangeEnd}
use Rattle.vc_world.specs.declared.fetching.Fetched.{Fetched}

-- a fault before anything is printed
pub fetch_untold : {T : Type 0} (end : Result Fetched (ExchangeEnd RemoteFault)) (a : Option (List ℕ)) (failure : Failure) (r : Result T Failure) → IsErrAnd r (λ e. e ≡ failure) → IsFault failure → TellsFetch end a a r
fetch_untold (Ok fetched) a failure (Err e) is fault = subst IsFault (sym is) fault
fetch_untold (Err end) a failure (Err e) is fault = (inl (subst IsFault (sym is) fault), Keeps-refl a)
fetch_untold end a failure (Ok done) is fault = absurd is

pub push_untold : (end : Result Report (ExchangeEnd RemoteFault)) (a : Option (List ℕ)) (failure : Failure) (r : Result Bool Failure) → IsErrAnd r (λ e. e ≡ failure) → IsFault failure → TellsPush end a a r
push_untold (Ok report) a failure (Err e) is fault = subst IsFault (sym is) fault
push_untold (Err end) a failure (Err e) is fault = (inl (subst IsFault (sym is) fault), Keeps-refl a)
push_untold end a failure (Ok done) is fault = absurd is
