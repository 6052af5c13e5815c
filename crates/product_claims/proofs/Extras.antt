-- The entries beside document 01's.
use lib.ListN.{length}
use Rattle.refusal.proofs.Answers.{answered_judged}
use Rattle.channel_file.proofs.{Claims.{token_list_claim}, RegisterClaims.{register_claim}}
use Rattle.channel_io.proofs.RegisterDemands as registers
use Rattle.channel_io.proofs.FileDemands.{compiling_a_file, file_to_table}
use Rattle.table_rows.specs.{Rendering.{handed_refusal, rendering_refusal}, Rows.{rows_text}}
use Rattle.table_rows.proofs.Renderings.{rendering_judged}
use Rattle.table_graph.specs.Graph.{graph_text, graph_refusal}
use Rattle.table_graph.proofs.GraphClaims.{graph_refusals}
use Rattle.gurvazze_host.proofs.HostClaims.{host_claim}
use Rattle.product_claims.specs.Extras.{Extras}

pub extras : Extras
extras =
    record {
      files = record { judged = compiling_a_file; made = file_to_table };
      register_files = record { judged = registers.compiling_a_file; made = registers.file_to_table };
      printing_rows = λ events kind states bytes old new r k.
          answered_judged (rendering_refusal (handed_refusal events kind 0 states bytes) (rows_text events kind states bytes) (length old))
          (length (rows_text events kind states bytes)) (rows_text events kind states bytes) old k.answer k.buffer
          (rendering_judged events kind 0 states bytes (rows_text events kind states bytes) (length old));
      drawing = λ events kind top states bytes old new r k.
          answered_judged (graph_refusal events kind top states bytes (length old)) (length (graph_text events kind top states bytes))
          (graph_text events kind top states bytes) old k.answer k.buffer (graph_refusals events kind top states bytes (length old));
      tokens_alone = token_list_claim;
      register_tokens_alone = register_claim.token_list;
      static_library = host_claim;
    }
