-- The verdict on a command at the check, from what each part of it found.
use Rattle.std.proofs.Common.{◌≡◌, inl, inr, Bool, true, false, cond, Option, Some, None, refl, sym, ◌∙◌, true≢false}
use Rattle.vc_format.specs.Git.{git_is_legal}
use Rattle.vc_object_map.specs.Graph.{IsClosed}
use Rattle.vc_object.specs.ObjectId.{id_eq}
use Rattle.vc_object.specs.ObjectMap.{ObjectMap, links_in}
use Rattle.vc_push.specs.Push.{CommandText, zero_id}
use Rattle.vc_push.specs.declared.reason.Reason.{Reason}
use Rattle.vc_push.specs.declared.reason.Reason.TheVariants.{BadName, OutsideRefs, DeletionProhibited, MissingObjects}
use Rattle.vc_push_rules.specs.Verdict.{CheckNeeds, IsVerdict, IsVerdictAtCheck, MayBeSet, history_reasons, is_inside, own_reason}

some_same : (x y : Reason) → ◌≡◌ {A = Option Reason} (Some x) (Some y) → x ≡ y
some_same x y e = cc e

module _ (objects : ObjectMap) (c : CommandText) where
  -- ---- 100 to 102
  -- what the command alone gives nothing against
  pub record IsPlain : Type 0 where
    pub legal : git_is_legal c.name ≡ true
    pub inside : is_inside c.name ≡ true
    pub kept : id_eq c.new zero_id ≡ false

  abbrev zero_or : Bool → Option Reason
  zero_or b = cond b (Some DeletionProhibited) None

  own_some : (r : Reason) (l i z : Bool) → git_is_legal c.name ≡ l → is_inside c.name ≡ i → id_eq c.new zero_id ≡ z → cond l (cond i (zero_or z) (Some OutsideRefs)) (Some BadName) ≡ Some r → IsVerdictAtCheck objects c (Some r)
  own_some r false i z a b d e = inl ((λ met. true≢false (sym met ∙ a)), sym (some_same BadName r e))
  own_some r true false z a b d e = inr (a, inl ((λ met. true≢false (sym met ∙ b)), sym (some_same OutsideRefs r e)))
  own_some r true true true a b d e = inr (a, inr (b, inl ((λ met. true≢false (sym d ∙ met)), sym (some_same DeletionProhibited r e))))
  own_some r true true false a b d e = absurd (cc e)

  pub own_verdict : (r : Reason) → own_reason c ≡ Some r → IsVerdictAtCheck objects c (Some r)
  own_verdict r e = own_some r (git_is_legal c.name) (is_inside c.name) (id_eq c.new zero_id) refl refl refl e

  own_plain : (l i z : Bool) → git_is_legal c.name ≡ l → is_inside c.name ≡ i → id_eq c.new zero_id ≡ z → cond l (cond i (zero_or z) (Some OutsideRefs)) (Some BadName) ≡ None → IsPlain
  own_plain false i z a b d e = absurd (cc e)
  own_plain true false z a b d e = absurd (cc e)
  own_plain true true true a b d e = absurd (cc e)
  own_plain true true false a b d e = record { legal = a; inside = b; kept = d }

  pub own_none : own_reason c ≡ None → IsPlain
  own_none e = own_plain (git_is_legal c.name) (is_inside c.name) (id_eq c.new zero_id) refl refl refl e

  pub may_be_set : own_reason c ≡ None → MayBeSet c.name
  may_be_set e = let p = own_none e in record { legal = p.legal; inside = p.inside }

  -- ---- 103, and the whole
  pub missing : own_reason c ≡ None → (IsClosed (links_in objects) c.new → ⊥) → IsVerdictAtCheck objects c (Some MissingObjects)
  missing e gap = let p = own_none e in inr (p.legal, inr (p.inside, inr (p.kept, inl (gap, refl))))

  pub the_rest : (found : Option Reason) → own_reason c ≡ None → IsClosed (links_in objects) c.new → IsVerdict (CheckNeeds objects c) history_reasons found → IsVerdictAtCheck objects c found
  the_rest None e closed h = let p = own_none e in (p.legal, (p.inside, (p.kept, (closed, h))))
  the_rest (Some r) e closed h = let p = own_none e in inr (p.legal, inr (p.inside, inr (p.kept, inr (closed, h))))
