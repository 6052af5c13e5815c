-- The refusals of the call that renders a table as a digraph, and how long a digraph is.
use Rattle.values.specs.Setup.{top_of}
use Rattle.table_rows.proofs.Renderings.{rendering_judged, counts_passed, few_entries, handed_runs}
use Rattle.table_graph.specs.Graph.{graph_text, GraphRefusalClaim, GraphLengthClaim}
use Rattle.table_graph.proofs.Graphs.{graph_length}

pub graph_refusals : GraphRefusalClaim
graph_refusals events kind top states bytes room =
    rendering_judged events kind top states bytes (graph_text events kind top states bytes) room

pub graph_length_claim : GraphLengthClaim
graph_length_claim events kind top states bytes passed =
    graph_length events kind top states (top_of kind top) _ (few_entries events kind top states bytes passed)
    (counts_passed events kind top states bytes passed) (handed_runs events kind top states bytes passed)
