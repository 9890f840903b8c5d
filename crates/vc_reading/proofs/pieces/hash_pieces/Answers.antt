use Rattle.std.proofs.Common.{arith, ◌<◌, [], take, length, subst}
use Rattle.std.specs.Io.KnownBytes.{Consumes}
use Rattle.vc_object.specs.declared.kind.Kind.TheVariants.{Blob}
use Rattle.vc_reading.proofs.PieceLemmas.{HasRead-piece, HasRead-end, HasRead-length}
use Rattle.vc_reading.proofs.pieces.hash_pieces.Goals as goal

pub loop-preserved : goal.loop-preserved
loop-preserved g c =
    let remaining = g.I.Read.remaining in
    HasRead-piece (remaining c.args.input) (remaining c.loop.input) (remaining c.read.new.self) c.loop.hasher c.update.new.self Blob c.args.size c.loop.left c.in_ok-count.count c.read.new.buf
    c.loop.invariant c.in_ok-count.ensures.bytes.0 c.in_ok-count.ensures.bound.0 c.if-left-count.false c.update.ensures

pub returns-then-left-eq0-clause-name : goal.returns-then-left-eq0-clause-name
returns-then-left-eq0-clause-name g c =
    let remaining = g.I.Read.remaining in
    let some_room : 0 < length c.read.new.buf = omega (arith, c.loop.auto.piece, c.in_ok-count.ensures.bound.1) in
    let none_read : Consumes (remaining c.loop.input) (remaining c.read.new.self) [] = subst (λ n. Consumes (remaining c.loop.input) (remaining c.read.new.self) (take n c.read.new.buf)) c.if-count-eq0.true c.in_ok-count.ensures.bytes.0 in
    HasRead-end (remaining c.args.input) (remaining c.loop.input) (remaining c.read.new.self) c.loop.hasher Blob c.args.size c.loop.left c.finish.result
    c.loop.invariant none_read (c.in_ok-count.ensures.bytes.1 c.if-count-eq0.true some_room) c.if-left-eq0.true c.finish.ensures.name

pub returns-then-left-eq0-clause-length : goal.returns-then-left-eq0-clause-length
returns-then-left-eq0-clause-length g c =
    let remaining = g.I.Read.remaining in
    let some_room : 0 < length c.read.new.buf = omega (arith, c.loop.auto.piece, c.in_ok-count.ensures.bound.1) in
    let none_read : Consumes (remaining c.loop.input) (remaining c.read.new.self) [] = subst (λ n. Consumes (remaining c.loop.input) (remaining c.read.new.self) (take n c.read.new.buf)) c.if-count-eq0.true c.in_ok-count.ensures.bytes.0 in
    HasRead-length (remaining c.args.input) (remaining c.loop.input) (remaining c.read.new.self) c.loop.hasher Blob c.args.size c.loop.left
    c.loop.invariant none_read (c.in_ok-count.ensures.bytes.1 c.if-count-eq0.true some_room) c.if-left-eq0.true
