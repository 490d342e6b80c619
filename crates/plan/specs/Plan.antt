-- What one event does: a group for each table. A column that is set in a row that was there before (binding, root, script; all of a state's; other; finalize) is
-- given as its new value, and none keeps it. The records are the code's structs.
use Rattle.std.specs.Prelude.{ℕ, Option, None}
use Rattle.definition.specs.declared.codes.ListKind.{ListKind}
use Rattle.plan.specs.declared.ChartPlan.{ChartPlan}
use Rattle.plan.specs.declared.StatePlan.{StatePlan}
use Rattle.plan.specs.declared.TransitionPlan.{TransitionPlan}
use Rattle.plan.specs.declared.RegionPlan.{RegionPlan}
use Rattle.plan.specs.declared.EntryPlan.{EntryPlan}
use Rattle.plan.specs.declared.InvokePlan.{InvokePlan}
use Rattle.plan.specs.declared.DatumPlan.{DatumPlan}
use Rattle.plan.specs.declared.ParameterPlan.{ParameterPlan}
use Rattle.plan.specs.declared.MemberPlan.{MemberPlan}
use Rattle.plan.specs.declared.MembersPlan.{MembersPlan}
use Rattle.plan.specs.declared.OpenPlan.{OpenPlan}
use Rattle.plan.specs.declared.OpenRegionPlan.{OpenRegionPlan}
use Rattle.plan.specs.declared.CounterPlan.{CounterPlan}
use Rattle.plan.specs.declared.Plan.{Plan}
use Rattle.plan.specs.Ids.{state_id, transition_id, region_id}

pub data Planned : Type 0 where
  planned : Plan → Planned
  refused : ℕ → Planned

-- ---- groups that do nothing

abbrev pub no_transition : TransitionPlan
no_transition = record { added = None; altered = None }

abbrev pub no_region : RegionPlan
no_region = record { one = None; two = None }

abbrev pub no_entry : EntryPlan
no_entry = record { added = None; altered = None }

abbrev pub no_invoke : InvokePlan
no_invoke = record { added = None; altered = None }

abbrev pub no_datum : DatumPlan
no_datum = record { added = None; altered = None }

abbrev pub no_members : MembersPlan
no_members = record { words = None; targets = None; one = None; two = None }

abbrev pub member : ListKind → ℕ → ℕ → MemberPlan
member l o v = record { list = l; owner = o; value = v }

abbrev pub inside : ℕ → ℕ → OpenPlan
inside s t = record { state = state_id s; transition = transition_id t }

abbrev pub keeping : ℕ → OpenRegionPlan
keeping k = record { kept = k; one = None; two = None }

abbrev pub counting : ℕ → ℕ → ℕ → CounterPlan
counting c i d = record { current = region_id c; ids = i; docs = d }

-- ---- a plan from the one that does nothing

abbrev pub plan : Option ChartPlan → Option StatePlan → TransitionPlan → RegionPlan → EntryPlan → InvokePlan → DatumPlan → Option ParameterPlan → MembersPlan → OpenPlan → OpenRegionPlan → CounterPlan → Plan
plan a b c d e f g h i j k m =
    record { chart = a; states = b; transitions = c; regions = d; entries = e; invokes = f; datums = g; parameters = h; members = i; opened = j; pending = k; counters = m }

abbrev pub idle : OpenPlan → OpenRegionPlan → CounterPlan → Plan
idle o r c = plan None None no_transition no_region no_entry no_invoke no_datum None no_members o r c

abbrev pub on_chart : Option ChartPlan → Plan → Plan
on_chart x p = plan x p.states p.transitions p.regions p.entries p.invokes p.datums p.parameters p.members p.opened p.pending p.counters

abbrev pub on_state : Option StatePlan → Plan → Plan
on_state x p = plan p.chart x p.transitions p.regions p.entries p.invokes p.datums p.parameters p.members p.opened p.pending p.counters

abbrev pub on_transition : TransitionPlan → Plan → Plan
on_transition x p = plan p.chart p.states x p.regions p.entries p.invokes p.datums p.parameters p.members p.opened p.pending p.counters

abbrev pub on_region : RegionPlan → Plan → Plan
on_region x p = plan p.chart p.states p.transitions x p.entries p.invokes p.datums p.parameters p.members p.opened p.pending p.counters

abbrev pub on_entry : EntryPlan → Plan → Plan
on_entry x p = plan p.chart p.states p.transitions p.regions x p.invokes p.datums p.parameters p.members p.opened p.pending p.counters

abbrev pub on_invoke : InvokePlan → Plan → Plan
on_invoke x p = plan p.chart p.states p.transitions p.regions p.entries x p.datums p.parameters p.members p.opened p.pending p.counters

abbrev pub on_datum : DatumPlan → Plan → Plan
on_datum x p = plan p.chart p.states p.transitions p.regions p.entries p.invokes x p.parameters p.members p.opened p.pending p.counters

abbrev pub on_parameter : Option ParameterPlan → Plan → Plan
on_parameter x p = plan p.chart p.states p.transitions p.regions p.entries p.invokes p.datums x p.members p.opened p.pending p.counters

abbrev pub on_members : MembersPlan → Plan → Plan
on_members x p = plan p.chart p.states p.transitions p.regions p.entries p.invokes p.datums p.parameters x p.opened p.pending p.counters

abbrev pub on_opened : OpenPlan → Plan → Plan
on_opened x p = plan p.chart p.states p.transitions p.regions p.entries p.invokes p.datums p.parameters p.members x p.pending p.counters

abbrev pub on_open_regions : OpenRegionPlan → Plan → Plan
on_open_regions x p = plan p.chart p.states p.transitions p.regions p.entries p.invokes p.datums p.parameters p.members p.opened x p.counters

abbrev pub on_counters : CounterPlan → Plan → Plan
on_counters x p = plan p.chart p.states p.transitions p.regions p.entries p.invokes p.datums p.parameters p.members p.opened p.pending x
