use Rattle.std.proofs.Common.{◌≡◌, ◌∷◌, ◌++◌, [], Some, None, Ok, Err, ap, append-nil, append_assoc, length, refl, rules}
use Rattle.std.proofs.lemmas.List.{map-append, nil_from_length}
use Rattle.git_config.specs.Grammar.{item, line_number}
use Rattle.git_config.specs.Grammar.Reads.{ends, goes, stops}
use Rattle.git_config.specs.Views.{said}
use Rattle.git_config.proofs.read.Goals as goal

pub loop-byte-preserved-in_ok-push-in-Ok : goal.loop-byte-preserved-in_ok-push-in-Ok
loop-byte-preserved-in_ok-push-in-Ok c = λ more bad reads.
    let is : item c.loop-byte.section.items c.in-Some.byte.now c.in-Some.rest.now ≡ Ok ((c.read_item.new.section.items, Some (said c.in-Some-found.variable)), c.in-Ok.after.now) = search rules in
    let all : c.push.new.self.items ≡ c.loop-byte.variables.items ++ c.in-Some-found.variable ∷ [] = search rules in
    rw (all, map-append, append_assoc) (c.loop-byte.invariant _ bad (rw c.in-Some.ensures.cases.0 (goes _ _ _ _ _ _ more bad is reads)))

pub loop-byte-preserved : goal.loop-byte-preserved
loop-byte-preserved c = λ more bad reads.
    let is : item c.loop-byte.section.items c.in-Some.byte.now c.in-Some.rest.now ≡ Ok ((c.read_item.new.section.items, None), c.in-Ok.after.now) = search rules in
    c.loop-byte.invariant _ bad (rw c.in-Some.ensures.cases.0 (goes _ _ _ _ _ _ more bad is reads))

pub returns-in-Err-Wrong : goal.returns-in-Err-Wrong
returns-in-Err-Wrong c =
    let is : item c.loop-byte.section.items c.in-Some.byte.now c.in-Some.rest.now ≡ Err c.in-Err-Wrong.after = search rules in
    let number : c.line_number.result ≡ line_number c.args.text.now c.in-Err-Wrong.after = search rules in
    (Some c.in-Err-Wrong.after, rw append-nil at (c.loop-byte.invariant [] (Some c.in-Err-Wrong.after) (rw c.in-Some.ensures.cases.0 (stops _ _ _ _ is))), ap Some number)

pub returns : goal.returns
returns c =
    let empty : length c.loop-byte.left.now ≡ 0 = search rules in
    (None, rw append-nil at (c.loop-byte.invariant [] None (rw (nil_from_length _ empty) (ends _))), refl)
