use Rattle.std.proofs.Common.{◌≡◌, ◌∙◌, ap, subst, [], ◌∷◌, ◌++◌}
use Rattle.std.specs.Prelude.{IfOk}
use Rattle.st_tree.specs.View.{view_expr}
use Rattle.acc_vm.specs.declared.instr.Instr.TheVariants as instr
use Rattle.codegen.specs.Codes.{Line}
use Rattle.codegen.specs.Emission as code
use Rattle.codegen.proofs.Emitting.{four_after}
use Rattle.codegen.proofs.expressions.emit_store.Goals as goal

pub returns : goal.returns
returns c =
    let s = c.args.scope.now in
    let old = c.args.out.now.items in
    let index = code.expr_code s c.args.place (view_expr c.args.index.now) in
    let value = code.expr_code s c.args.place (view_expr c.args.value.now) in
    let j : Line = (instr.Locate c.args.array.1, c.args.place) in
    let k : Line = (instr.StoreAt c.row_of-first.result c.args.array.1, c.args.place) in
    let is =
    four_after old c.emit_expr.new.out.items c.emit.new.out.items c.emit_expr-2.new.out.items index value j k c.in_ok-emit_expr.ensures c.in_ok-emit.ensures c.in_ok-emit_expr-2.ensures
    ∙ ap (λ n. old ++ (index ++ (j ∷ (value ++ (instr.StoreAt n c.args.array.1, c.args.place) ∷ [])))) c.row_of-first.ensures in
    subst (λ z. IfOk c.emit-2.result (λ x. c.emit-2.new.out.items ≡ z)) is c.emit-2.ensures
