-- What a loop that names a blob piece by piece keeps: for `name_pieces`.
use Rattle.std.proofs.Common.{◌≡◌, ℕ, ◌+◌, ◌-◌, ◌≤◌, List, [], ◌++◌, length, take, Some, None, ◌∙◌, sym, ap, subst, arith, append_assoc, length-append}
use Rattle.std.specs.Prelude.{Option, IfSome}
use Rattle.std.specs.Io.KnownBytes.{Consumes, IsAtEnd}
use Rattle.std.proofs.lemmas.List.{length-take-le, append-nil}
use Rattle.vc_object.specs.Object.{object_name}
use Rattle.vc_object.specs.NameHasher.{HasTaken}
use Rattle.vc_object.specs.declared.hasher.NameHasher.{NameHasher}
use Rattle.vc_object.specs.declared.id.ObjectId.{ObjectId}
use Rattle.vc_object.specs.declared.kind.Kind.{Kind}

-- a front of the known bytes was read and hashed, and so many bytes are left of what was said
pub record HasRead (known now : Option (List ℕ)) (hasher : NameHasher) (kind : Kind) (size left : ℕ) : Type 0 where
  pub front : List ℕ
  pub taken : Consumes known now front
  pub hashed : HasTaken hasher kind size front
  pub rest : length front + left ≡ size

Consumes-both : (a b c : Option (List ℕ)) (xs ys : List ℕ) → Consumes a b xs → Consumes b c ys → Consumes a c (xs ++ ys)
Consumes-both None b c xs ys p q = tt
Consumes-both (Some ws) None c xs ys p q = absurd p
Consumes-both (Some ws) (Some bs) None xs ys p q = absurd q
Consumes-both (Some ws) (Some bs) (Some cs) xs ys p q = p ∙ ap (λ zs. xs ++ zs) q ∙ sym (append_assoc xs ys cs)

-- one more piece
pub HasRead-piece : (known old now : Option (List ℕ)) (hasher after : NameHasher) (kind : Kind) (size left count : ℕ) (buffer : List ℕ) → HasRead known old hasher kind size left
    → Consumes old now (take count buffer) → count ≤ length buffer → count ≤ left
    → ((kind : Kind) (size : ℕ) (body : List ℕ) → HasTaken hasher kind size body → HasTaken after kind size (body ++ take count buffer))
    → HasRead known now after kind size (left - count)
HasRead-piece known old now hasher after kind size left count buffer h read within fits updated = record {
  front = h.front ++ take count buffer;
  taken = Consumes-both known old now h.front (take count buffer) h.taken read;
  hashed = updated kind size h.front h.hashed;
  rest = omega (arith, length-append h.front (take count buffer), length-take-le count buffer within, h.rest);
}

end_of : (known old now : Option (List ℕ)) (front : List ℕ) → Consumes known old front → Consumes old now [] → IsAtEnd now → IfSome known (λ body. front ≡ body)
end_of None old now front p q e = tt
end_of (Some xs) None now front p q e = absurd p
end_of (Some xs) (Some ys) None front p q e = absurd q
end_of (Some xs) (Some ys) (Some zs) front p q e = sym (p ∙ ap (λ r. front ++ r) (q ∙ e) ∙ append-nil front)

named : (kind : Kind) (known : Option (List ℕ)) (front : List ℕ) (id : ObjectId) → IfSome known (λ body. front ≡ body) → id ≡ object_name kind front → IfSome known (λ body. id ≡ object_name kind body)
named kind None front id whole h = tt
named kind (Some body) front id whole h = subst (λ b. id ≡ object_name kind b) whole h

-- after the last piece the name is that of all known bytes
pub HasRead-end : (known old now : Option (List ℕ)) (hasher : NameHasher) (kind : Kind) (size left : ℕ) (id : ObjectId) → HasRead known old hasher kind size left
    → Consumes old now [] → IsAtEnd now → left ≡ 0
    → ((kind : Kind) (body : List ℕ) → HasTaken hasher kind (length body) body → id ≡ object_name kind body)
    → IfSome known (λ body. id ≡ object_name kind body)
HasRead-end known old now hasher kind size left id h read ended none finished =
    let all : size ≡ length h.front = omega (arith, h.rest, none) in
    named kind known h.front id (end_of known old now h.front h.taken read ended) (finished kind h.front (subst (λ n. HasTaken hasher kind n h.front) all h.hashed))

sized : (known : Option (List ℕ)) (front : List ℕ) (size : ℕ) → IfSome known (λ body. front ≡ body) → size ≡ length front → IfSome known (λ body. length body ≡ size)
sized None front size whole h = tt
sized (Some body) front size whole h = ap length (sym whole) ∙ sym h

-- after the last piece the known bytes are as many as was said
pub HasRead-length : (known old now : Option (List ℕ)) (hasher : NameHasher) (kind : Kind) (size left : ℕ) → HasRead known old hasher kind size left
    → Consumes old now [] → IsAtEnd now → left ≡ 0 → IfSome known (λ body. length body ≡ size)
HasRead-length known old now hasher kind size left h read ended none =
    let all : size ≡ length h.front = omega (arith, h.rest, none) in
    sized known h.front size (end_of known old now h.front h.taken read ended) all

small : (known : Option (List ℕ)) (size : ℕ) → size ≤ 16777216 → IfSome known (λ body. length body ≡ size) → IfSome known (λ body. length body ≤ 16777216)
small None size h e = tt
small (Some body) size h e = subst (λ n. n ≤ 16777216) (sym e) h
