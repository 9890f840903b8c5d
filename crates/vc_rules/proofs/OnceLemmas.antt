-- What the machine has is known by how it is stored: an object by its kind and body, a name by its id.
use Rattle.std.proofs.Common.{◌≡◌, Option, Some, None, refl, ap, sym, ◌∙◌}
use Rattle.std.specs.Prelude.{option_map, unwrap_or}
use Rattle.vc_format.specs.Git.{id_of_bytes, kind_of}
use Rattle.vc_model.specs.Object.{Id, Kind, Object}
use Rattle.vc_model.specs.Object.Kind.{Blob, Commit, Tag, Tree}
use Rattle.vc_rules.specs.Git.{machine_kind, stored_of}

kind_again : (k : Kind) → machine_kind (kind_of k) ≡ k
kind_again Blob = refl
kind_again Tree = refl
kind_again Commit = refl
kind_again Tag = refl

stored_once : (o p : Object) → stored_of o ≡ stored_of p → o ≡ p
stored_once o p e =
    let kinds : o.kind ≡ p.kind = sym (kind_again o.kind) ∙ ap (λ s. machine_kind s.kind) e ∙ kind_again p.kind in
    let bodies : o.body ≡ p.body = ap (λ s. s.body) e in
    ap (λ k. record { kind = k; body = o.body }) kinds ∙ ap (λ b. record { kind = p.kind; body = b }) bodies

pub some_once : (a b : Option Object) → option_map stored_of a ≡ option_map stored_of b → a ≡ b
some_once None None e = refl
some_once None (Some p) e = absurd (cc e)
some_once (Some o) None e = absurd (cc e)
some_once (Some o) (Some p) e = ap Some (stored_once o p (ap (λ s. unwrap_or s (stored_of o)) e))

pub id_once : (a b : Option Id) → option_map id_of_bytes a ≡ option_map id_of_bytes b → a ≡ b
id_once None None e = refl
id_once None (Some p) e = absurd (cc e)
id_once (Some o) None e = absurd (cc e)
id_once (Some o) (Some p) e = ap Some (ap (λ s. (unwrap_or s (id_of_bytes o)).0) e)
