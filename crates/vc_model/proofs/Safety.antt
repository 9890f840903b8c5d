-- Every run from sound nodes is guarded, and every run of a new world is safe: the laws together.
use Rattle.std.proofs.Common.{◌∷◌, ◌++◌, sym, subst}
use Rattle.vc_model.specs.Run.{History, Run, NoCollision, NothingForgedToClones}
use Rattle.vc_model.specs.Safe.{AncestorEver, EveryRunIsGuarded, EveryRunIsSafe}
use Rattle.vc_model.proofs.Kept.{new_is_sound}
use Rattle.vc_model.proofs.Runs.{every_node_closed, monotone, front_run, front_one}
use Rattle.vc_model.proofs.Together.{all_together}
use Rattle.vc_model.proofs.Values.{honest_tracking, ever_later, front_honest}

pub every_run_guarded : EveryRunIsGuarded
every_run_guarded fmt start h sound r one = record {
  closed = λ late early is. every_node_closed fmt start late early sound (subst (Run fmt start) is r) (subst (NoCollision fmt start) is one);
  monotone = λ later late early b x is v.
      let r' : Run fmt start (later ++ (late ++ early)) = subst (Run fmt start) is r in
      let one' : NoCollision fmt start (later ++ (late ++ early)) = subst (NoCollision fmt start) is one in
      let y = monotone fmt start late early b x sound (front_run fmt start later (late ++ early) r') (front_one fmt start later (late ++ early) one') v in
      (y.0, y.1, subst (λ (k : History). AncestorEver fmt start k x y.0) (sym is) (ever_later fmt start later (late ++ early) x y.0 y.2));
  together = λ late early m slots s p is up got atomic step.
      all_together fmt start m early slots s p (front_run fmt start late (m ∷ early) (subst (Run fmt start) is r)) up got atomic step;
}

pub every_run_safe : EveryRunIsSafe
every_run_safe fmt n start h new r one honest =
    let guarded = every_run_guarded fmt start h (new_is_sound fmt start n new) r one in
    record {
      closed = guarded.closed;
      monotone = guarded.monotone;
      honest_tracking = λ late early c b x is t.
          honest_tracking fmt n start early c b x new (front_run fmt start late early (subst (Run fmt start) is r)) (front_honest late early (subst NothingForgedToClones is honest)) t;
    }
