-- The masked view is enough: no plan reads what is masked for its kind and element.
use Prim.Native.Nat.{ℕ, zero, suc}
use mathlib.Core.Path.{◌≡◌, refl, ap}
use mathlib.Core.Bool.{Bool, true, false}
use lib.Dec.{eqb}
use Rattle.std.specs.Prelude.{Option, Some, None}
use Rattle.plan.specs.declared.Plan.{Plan}
use Rattle.plan.specs.declared.ChartPlan.{ChartPlan}
use Rattle.plan.specs.Plan.{Planned, planned, on_chart}
use Rattle.plan.specs.declared.Seen.{Seen}
use Rattle.plan.specs.declared.Heard.{Heard}
use Rattle.plan.specs.Plans.{start_p, starts_p, both_p, boths_p, end_p, ends_p, plain_p, plan_by, not_child, chart_of, closed_p, unless_zero_p, only_nest_p, scxml_p, scxml_plan, state_p, parallel_p, final_p, history_p, initial_p, invoke_p, data_p, donedata_p, region_p, else_p, else_if_p, else_plan, else_if_plan, param_p, content_p, start_transition_p, both_transition_p, send_p, entry_p, log_p, assign_p, block_p, block_plan, script_p, root_script_p, both_scxml_p, both_state_p, both_finalize_p, both_listed_p, both_block_p, end_scxml_p, end_state_p, end_finalize_p, end_transition_p, end_listed_p, end_block_p, rest_p, declared_plan, as_child, both_declared, defaulted, default_p, default_to, transition_by, open_transition, whole_transition, transition_plan, unless_initial_p, closed_p, walked_p, of_last_send_p, of_last_invoke_p, of_donedata_p, parameter_p, send_content_p, content_of_send_p, begun, ended, idle_in, passing, fresh_p, initial_row, declared_members}
use Rattle.plan.specs.declared.Declared.{Declared}
use Rattle.see.specs.Masked.{masked}

-- Two plans go by the first child.
defaulted_enough : (k g f : ℕ) (x : Declared) (v : Seen) (q : Heard) → defaulted f x (masked k g v) q ≡ defaulted f x v q
unfolding defaulted masked declared_plan idle_in initial_row declared_members
defaulted_enough k g zero x v q = refl
defaulted_enough k g (suc f) x v q = refl

default_enough : (k g s f : ℕ) (v : Seen) → default_to s f (masked k g v) ≡ default_to s f v
unfolding default_to masked idle_in
default_enough k g s zero v = refl
default_enough k g s (suc f) v = refl

both_by : (ch : Option ChartPlan) (b c : Bool) (o : ℕ) (A B : Planned) {D E : Plan} → D ≡ E → unless_zero_p o (elim b [ true ↦ A | false ↦ elim c [ true ↦ planned (on_chart ch D) | false ↦ B ] ]) ≡ unless_zero_p o (elim b [ true ↦ A | false ↦ elim c [ true ↦ planned (on_chart ch E) | false ↦ B ] ])
both_by ch b c o A B e = ap (λ (P : Plan). unless_zero_p o (elim b [ true ↦ A | false ↦ elim c [ true ↦ planned (on_chart ch P) | false ↦ B ] ])) e

end_by : (c : Bool) (s : ℕ) (B : Planned) {D E : Plan} → D ≡ E → unless_zero_p s (elim c [ true ↦ planned D | false ↦ B ]) ≡ unless_zero_p s (elim c [ true ↦ planned E | false ↦ B ])
end_by c s B e = ap (λ (P : Plan). unless_zero_p s (elim c [ true ↦ planned P | false ↦ B ])) e

start_enough : (g : ℕ) (v : Seen) (q : Heard) → start_p g (masked 0 g v) q ≡ start_p g v q
unfolding start_p starts_p plain_p masked only_nest_p scxml_p scxml_plan state_p parallel_p final_p history_p initial_p invoke_p data_p donedata_p region_p else_p else_if_p else_plan else_if_plan param_p content_p start_transition_p both_transition_p send_p entry_p log_p assign_p block_p block_plan script_p root_script_p both_scxml_p both_state_p both_finalize_p both_listed_p both_block_p end_scxml_p end_state_p end_finalize_p end_transition_p end_listed_p end_block_p rest_p declared_plan as_child both_declared defaulted default_p default_to transition_by open_transition whole_transition transition_plan unless_initial_p closed_p walked_p of_last_send_p of_last_invoke_p of_donedata_p parameter_p send_content_p content_of_send_p begun ended idle_in passing fresh_p initial_row declared_members
start_enough zero v q = refl
start_enough (suc zero) v q = refl
start_enough (suc (suc zero)) v q = refl
start_enough (suc (suc (suc zero))) v q = refl
start_enough (suc (suc (suc (suc zero)))) v q = refl
start_enough (suc (suc (suc (suc (suc zero))))) v q = refl
start_enough (suc (suc (suc (suc (suc (suc zero)))))) v q = refl
start_enough (suc (suc (suc (suc (suc (suc (suc zero))))))) v q = refl
start_enough (suc (suc (suc (suc (suc (suc (suc (suc zero)))))))) v q = refl
start_enough (suc (suc (suc (suc (suc (suc (suc (suc (suc zero))))))))) v q = refl
start_enough (suc (suc (suc (suc (suc (suc (suc (suc (suc (suc zero)))))))))) v q = refl
start_enough (suc (suc (suc (suc (suc (suc (suc (suc (suc (suc (suc zero))))))))))) v q = refl
start_enough (suc (suc (suc (suc (suc (suc (suc (suc (suc (suc (suc (suc zero)))))))))))) v q = refl
start_enough (suc (suc (suc (suc (suc (suc (suc (suc (suc (suc (suc (suc (suc zero))))))))))))) v q = refl
start_enough (suc (suc (suc (suc (suc (suc (suc (suc (suc (suc (suc (suc (suc (suc zero)))))))))))))) v q = refl
start_enough (suc (suc (suc (suc (suc (suc (suc (suc (suc (suc (suc (suc (suc (suc (suc zero))))))))))))))) v q = refl
start_enough (suc (suc (suc (suc (suc (suc (suc (suc (suc (suc (suc (suc (suc (suc (suc (suc zero)))))))))))))))) v q = refl
start_enough (suc (suc (suc (suc (suc (suc (suc (suc (suc (suc (suc (suc (suc (suc (suc (suc (suc zero))))))))))))))))) v q = refl
start_enough (suc (suc (suc (suc (suc (suc (suc (suc (suc (suc (suc (suc (suc (suc (suc (suc (suc (suc zero)))))))))))))))))) v q = refl
start_enough (suc (suc (suc (suc (suc (suc (suc (suc (suc (suc (suc (suc (suc (suc (suc (suc (suc (suc (suc zero))))))))))))))))))) v q = refl
start_enough (suc (suc (suc (suc (suc (suc (suc (suc (suc (suc (suc (suc (suc (suc (suc (suc (suc (suc (suc (suc zero)))))))))))))))))))) v q = refl
start_enough (suc (suc (suc (suc (suc (suc (suc (suc (suc (suc (suc (suc (suc (suc (suc (suc (suc (suc (suc (suc (suc zero))))))))))))))))))))) v q = refl
start_enough (suc (suc (suc (suc (suc (suc (suc (suc (suc (suc (suc (suc (suc (suc (suc (suc (suc (suc (suc (suc (suc (suc zero)))))))))))))))))))))) v q = refl
start_enough (suc (suc (suc (suc (suc (suc (suc (suc (suc (suc (suc (suc (suc (suc (suc (suc (suc (suc (suc (suc (suc (suc (suc zero))))))))))))))))))))))) v q = refl
start_enough (suc (suc (suc (suc (suc (suc (suc (suc (suc (suc (suc (suc (suc (suc (suc (suc (suc (suc (suc (suc (suc (suc (suc (suc zero)))))))))))))))))))))))) v q = refl
start_enough (suc (suc (suc (suc (suc (suc (suc (suc (suc (suc (suc (suc (suc (suc (suc (suc (suc (suc (suc (suc (suc (suc (suc (suc (suc zero))))))))))))))))))))))))) v q = refl
start_enough (suc (suc (suc (suc (suc (suc (suc (suc (suc (suc (suc (suc (suc (suc (suc (suc (suc (suc (suc (suc (suc (suc (suc (suc (suc (suc zero)))))))))))))))))))))))))) v q = refl
start_enough (suc (suc (suc (suc (suc (suc (suc (suc (suc (suc (suc (suc (suc (suc (suc (suc (suc (suc (suc (suc (suc (suc (suc (suc (suc (suc (suc g))))))))))))))))))))))))))) v q = refl

both_enough : (g : ℕ) (v : Seen) (q : Heard) → both_p g (masked 1 g v) q ≡ both_p g v q
unfolding both_p boths_p plain_p masked only_nest_p scxml_p scxml_plan state_p parallel_p final_p history_p initial_p invoke_p data_p donedata_p region_p else_p else_if_p else_plan else_if_plan param_p content_p start_transition_p both_transition_p send_p entry_p log_p assign_p block_p block_plan script_p root_script_p both_scxml_p both_state_p both_finalize_p both_listed_p both_block_p end_scxml_p end_state_p end_finalize_p end_transition_p end_listed_p end_block_p rest_p declared_plan as_child both_declared defaulted default_p default_to transition_by open_transition whole_transition transition_plan unless_initial_p closed_p walked_p of_last_send_p of_last_invoke_p of_donedata_p parameter_p send_content_p content_of_send_p begun ended idle_in passing fresh_p initial_row declared_members
both_enough zero v q = refl
both_enough (suc zero) v q = both_by (Some (chart_of q)) q.initial (eqb v.own.0 0) q.own.0 _ _ (defaulted_enough 1 1 v.eldest.0 not_child v q)
both_enough (suc (suc zero)) v q = both_by None q.initial (eqb v.own.0 0) q.own.0 _ _ (defaulted_enough 1 2 v.eldest.0 (as_child None None v q) v q)
both_enough (suc (suc (suc zero))) v q = refl
both_enough (suc (suc (suc (suc zero)))) v q = refl
both_enough (suc (suc (suc (suc (suc zero))))) v q = refl
both_enough (suc (suc (suc (suc (suc (suc zero)))))) v q = refl
both_enough (suc (suc (suc (suc (suc (suc (suc zero))))))) v q = refl
both_enough (suc (suc (suc (suc (suc (suc (suc (suc zero)))))))) v q = refl
both_enough (suc (suc (suc (suc (suc (suc (suc (suc (suc zero))))))))) v q = refl
both_enough (suc (suc (suc (suc (suc (suc (suc (suc (suc (suc zero)))))))))) v q = refl
both_enough (suc (suc (suc (suc (suc (suc (suc (suc (suc (suc (suc zero))))))))))) v q = refl
both_enough (suc (suc (suc (suc (suc (suc (suc (suc (suc (suc (suc (suc zero)))))))))))) v q = refl
both_enough (suc (suc (suc (suc (suc (suc (suc (suc (suc (suc (suc (suc (suc zero))))))))))))) v q = refl
both_enough (suc (suc (suc (suc (suc (suc (suc (suc (suc (suc (suc (suc (suc (suc zero)))))))))))))) v q = refl
both_enough (suc (suc (suc (suc (suc (suc (suc (suc (suc (suc (suc (suc (suc (suc (suc zero))))))))))))))) v q = refl
both_enough (suc (suc (suc (suc (suc (suc (suc (suc (suc (suc (suc (suc (suc (suc (suc (suc zero)))))))))))))))) v q = refl
both_enough (suc (suc (suc (suc (suc (suc (suc (suc (suc (suc (suc (suc (suc (suc (suc (suc (suc zero))))))))))))))))) v q = refl
both_enough (suc (suc (suc (suc (suc (suc (suc (suc (suc (suc (suc (suc (suc (suc (suc (suc (suc (suc zero)))))))))))))))))) v q = refl
both_enough (suc (suc (suc (suc (suc (suc (suc (suc (suc (suc (suc (suc (suc (suc (suc (suc (suc (suc (suc zero))))))))))))))))))) v q = refl
both_enough (suc (suc (suc (suc (suc (suc (suc (suc (suc (suc (suc (suc (suc (suc (suc (suc (suc (suc (suc (suc zero)))))))))))))))))))) v q = refl
both_enough (suc (suc (suc (suc (suc (suc (suc (suc (suc (suc (suc (suc (suc (suc (suc (suc (suc (suc (suc (suc (suc zero))))))))))))))))))))) v q = refl
both_enough (suc (suc (suc (suc (suc (suc (suc (suc (suc (suc (suc (suc (suc (suc (suc (suc (suc (suc (suc (suc (suc (suc zero)))))))))))))))))))))) v q = refl
both_enough (suc (suc (suc (suc (suc (suc (suc (suc (suc (suc (suc (suc (suc (suc (suc (suc (suc (suc (suc (suc (suc (suc (suc zero))))))))))))))))))))))) v q = refl
both_enough (suc (suc (suc (suc (suc (suc (suc (suc (suc (suc (suc (suc (suc (suc (suc (suc (suc (suc (suc (suc (suc (suc (suc (suc zero)))))))))))))))))))))))) v q = refl
both_enough (suc (suc (suc (suc (suc (suc (suc (suc (suc (suc (suc (suc (suc (suc (suc (suc (suc (suc (suc (suc (suc (suc (suc (suc (suc zero))))))))))))))))))))))))) v q = refl
both_enough (suc (suc (suc (suc (suc (suc (suc (suc (suc (suc (suc (suc (suc (suc (suc (suc (suc (suc (suc (suc (suc (suc (suc (suc (suc (suc zero)))))))))))))))))))))))))) v q = refl
both_enough (suc (suc (suc (suc (suc (suc (suc (suc (suc (suc (suc (suc (suc (suc (suc (suc (suc (suc (suc (suc (suc (suc (suc (suc (suc (suc (suc g))))))))))))))))))))))))))) v q = refl

end_enough : (k g : ℕ) (v : Seen) → end_p g (masked (suc (suc (suc k))) g v) ≡ end_p g v
unfolding end_p ends_p masked only_nest_p scxml_p scxml_plan state_p parallel_p final_p history_p initial_p invoke_p data_p donedata_p region_p else_p else_if_p else_plan else_if_plan param_p content_p start_transition_p both_transition_p send_p entry_p log_p assign_p block_p block_plan script_p root_script_p both_scxml_p both_state_p both_finalize_p both_listed_p both_block_p end_scxml_p end_state_p end_finalize_p end_transition_p end_listed_p end_block_p rest_p declared_plan as_child both_declared defaulted default_p default_to transition_by open_transition whole_transition transition_plan unless_initial_p closed_p walked_p of_last_send_p of_last_invoke_p of_donedata_p parameter_p send_content_p content_of_send_p begun ended idle_in passing fresh_p initial_row declared_members
end_enough k zero v = refl
end_enough k (suc zero) v = end_by (eqb v.begins.0 0) v.root.0 _ (default_enough (suc (suc (suc k))) 1 v.root.0 v.child.0 v)
end_enough k (suc (suc zero)) v = end_by (eqb v.initial.0 0) v.state.0 _ (default_enough (suc (suc (suc k))) 2 v.state.0 v.first.0 v)
end_enough k (suc (suc (suc zero))) v = refl
end_enough k (suc (suc (suc (suc zero)))) v = refl
end_enough k (suc (suc (suc (suc (suc zero))))) v = refl
end_enough k (suc (suc (suc (suc (suc (suc zero)))))) v = refl
end_enough k (suc (suc (suc (suc (suc (suc (suc zero))))))) v = refl
end_enough k (suc (suc (suc (suc (suc (suc (suc (suc zero)))))))) v = refl
end_enough k (suc (suc (suc (suc (suc (suc (suc (suc (suc zero))))))))) v = refl
end_enough k (suc (suc (suc (suc (suc (suc (suc (suc (suc (suc zero)))))))))) v = refl
end_enough k (suc (suc (suc (suc (suc (suc (suc (suc (suc (suc (suc zero))))))))))) v = refl
end_enough k (suc (suc (suc (suc (suc (suc (suc (suc (suc (suc (suc (suc zero)))))))))))) v = refl
end_enough k (suc (suc (suc (suc (suc (suc (suc (suc (suc (suc (suc (suc (suc zero))))))))))))) v = refl
end_enough k (suc (suc (suc (suc (suc (suc (suc (suc (suc (suc (suc (suc (suc (suc zero)))))))))))))) v = refl
end_enough k (suc (suc (suc (suc (suc (suc (suc (suc (suc (suc (suc (suc (suc (suc (suc zero))))))))))))))) v = refl
end_enough k (suc (suc (suc (suc (suc (suc (suc (suc (suc (suc (suc (suc (suc (suc (suc (suc zero)))))))))))))))) v = refl
end_enough k (suc (suc (suc (suc (suc (suc (suc (suc (suc (suc (suc (suc (suc (suc (suc (suc (suc zero))))))))))))))))) v = refl
end_enough k (suc (suc (suc (suc (suc (suc (suc (suc (suc (suc (suc (suc (suc (suc (suc (suc (suc (suc zero)))))))))))))))))) v = refl
end_enough k (suc (suc (suc (suc (suc (suc (suc (suc (suc (suc (suc (suc (suc (suc (suc (suc (suc (suc (suc zero))))))))))))))))))) v = refl
end_enough k (suc (suc (suc (suc (suc (suc (suc (suc (suc (suc (suc (suc (suc (suc (suc (suc (suc (suc (suc (suc zero)))))))))))))))))))) v = refl
end_enough k (suc (suc (suc (suc (suc (suc (suc (suc (suc (suc (suc (suc (suc (suc (suc (suc (suc (suc (suc (suc (suc zero))))))))))))))))))))) v = refl
end_enough k (suc (suc (suc (suc (suc (suc (suc (suc (suc (suc (suc (suc (suc (suc (suc (suc (suc (suc (suc (suc (suc (suc zero)))))))))))))))))))))) v = refl
end_enough k (suc (suc (suc (suc (suc (suc (suc (suc (suc (suc (suc (suc (suc (suc (suc (suc (suc (suc (suc (suc (suc (suc (suc zero))))))))))))))))))))))) v = refl
end_enough k (suc (suc (suc (suc (suc (suc (suc (suc (suc (suc (suc (suc (suc (suc (suc (suc (suc (suc (suc (suc (suc (suc (suc (suc zero)))))))))))))))))))))))) v = refl
end_enough k (suc (suc (suc (suc (suc (suc (suc (suc (suc (suc (suc (suc (suc (suc (suc (suc (suc (suc (suc (suc (suc (suc (suc (suc (suc zero))))))))))))))))))))))))) v = refl
end_enough k (suc (suc (suc (suc (suc (suc (suc (suc (suc (suc (suc (suc (suc (suc (suc (suc (suc (suc (suc (suc (suc (suc (suc (suc (suc (suc zero)))))))))))))))))))))))))) v = refl
end_enough k (suc (suc (suc (suc (suc (suc (suc (suc (suc (suc (suc (suc (suc (suc (suc (suc (suc (suc (suc (suc (suc (suc (suc (suc (suc (suc (suc g))))))))))))))))))))))))))) v = refl

pub enough : (k g : ℕ) (v : Seen) (q : Heard) → plan_by k g (masked k g v) q ≡ plan_by k g v q
unfolding plan_by masked
enough zero g v q = start_enough g v q
enough (suc zero) g v q = both_enough g v q
enough (suc (suc zero)) g v q = both_enough g v q
enough (suc (suc (suc k))) g v q = end_enough k g v
